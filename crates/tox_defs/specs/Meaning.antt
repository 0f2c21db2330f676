-- What a toxic is: its name and attributes, what it gives, its operation, and its law.
use Rattle.std.specs.Prelude.{ℕ, List}
use Rattle.tox_time.specs.declared.streams.item.Item.{Item}
use Rattle.tox_defs.specs.declared.attributes.effect.Effect.{Effect}
use Rattle.tox_defs.specs.declared.attributes.limits.Limits.{Limits}
use Rattle.tox_defs.specs.declared.attributes.window.Window.{Window}
use Rattle.tox_defs.specs.declared.operations.op.Op.{Op}
use Rattle.tox_defs.specs.declared.toxic.Toxic.{Toxic}
use Rattle.tox_defs.specs.stage.Reaction.{Giving}

-- the name of a toxic's type, the names, ranges and values of its attributes in order, the milliseconds before which and
-- from which on it lets chunks pass (0: it never does), and what is known of what it does
pub record Description : Type 0 where
  pub name : List ℕ
  pub attributes : List (List ℕ)
  pub limits : List Limits
  pub values : List ℕ
  pub window : Window
  pub effect : Effect

-- all that there is to know of a toxic: the toxic of its type with other values, what it gives by the words of its
-- lane, its operation at a place, and the law of what it gives for an arrival list
pub record Meaning : Type 1 where
  pub description : Description
  pub with_values : List ℕ → Toxic
  pub gives : (ℕ → ℕ) → Giving
  pub op : ℕ → Op
  pub law : List Item → List Item → Type 0
