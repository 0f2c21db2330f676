-- What a list becomes on its way through some entries of a chain, one after the other.
use Rattle.std.proofs.Common.{◌≡◌, ℕ, ◌+◌, Bool, true, false, List, ◌∷◌, map, refl, ap, ◌∙◌}
use Rattle.tox_time.specs.declared.streams.item.Item.{Item}
use Rattle.tox_time.specs.streams.Stream.{IsStream}
use Rattle.tox_words.specs.Draw.{Draws}
use Rattle.tox_defs.specs.declared.chain.Entry.{Entry}
use Rattle.tox_defs.specs.declared.toxic.Toxic.{Toxic}
use Rattle.tox_defs.specs.chain.Applied.{is_applied}
use Rattle.tox_defs.specs.Flow.{applied_from, placed_reaction}
use Rattle.tox_defs.specs.stage.Reaction.{flow_through}
use Rattle.tox_defs.specs.Toxic.{IsInRange}
use Rattle.tox_defs.specs.Laws.{toxic_flow}
use Rattle.tox_defs.proofs.ToxicStreams.{IsStream-toxic_flow}
use Rattle.tox_check.proofs.Silencing.{never}
use Rattle.tox_check.specs.Idle.{silenced}

-- what the applied ones of some entries make of a list
abbrev pub through : Draws → ℕ → List Entry → List Item → List Item
through draws place entries items = flow_through (map (placed_reaction draws) (applied_from place entries draws)) items

-- what one entry makes of it, applied or not
abbrev pub through_one : Bool → Toxic → (ℕ → ℕ) → List Item → List Item
through_one true toxic words items = toxic_flow toxic words items
through_one false toxic words items = items

pub through-cons : (draws : Draws) (place : ℕ) (entry : Entry) (entries : List Entry) (items : List Item)
    → through draws place (entry ∷ entries) items ≡ through draws (place + 1) entries
    (through_one (is_applied entry place draws) entry.toxic (draws place) items)
through-cons draws place entry entries items = by (is_applied entry place draws) refl
  where
    by : (e : Bool) → is_applied entry place draws ≡ e → through draws place (entry ∷ entries) items
        ≡ through draws (place + 1) entries (through_one e entry.toxic (draws place) items)
    by true is = rw is refl
    by false is = rw is refl

pub through_one-stream : (e : Bool) (toxic : Toxic) (words : ℕ → ℕ) (items : List Item) → IsInRange toxic → IsStream items
    → IsStream (through_one e toxic words items)
through_one-stream true toxic words items fits stream = IsStream-toxic_flow toxic words items fits stream
through_one-stream false toxic words items fits stream = stream

-- the first entry with the toxicity 0
pub through-silenced : (draws : Draws) (place : ℕ) (entry : Entry) (entries : List Entry) (items : List Item)
    → through draws place (silenced 0 (entry ∷ entries)) items ≡ through draws (place + 1) entries items
through-silenced draws place entry entries items =
    through-cons draws place (record { toxic = entry.toxic; toxicity = 0 }) entries items
    ∙ ap (λ e. through draws (place + 1) entries (through_one e entry.toxic (draws place) items)) (never entry.toxic place draws)
