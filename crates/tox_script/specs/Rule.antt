-- A rule of a script: the fields of its table, and the toxics that some connections of a proxy meet.
use Rattle.std.specs.Prelude.{ℕ, Bool, List, [], ◌∷◌, codes, Option, Result, Ok}
use Rattle.toml.specs.Data.{Data, Items, get}
use Rattle.tox_script.specs.fields.Fields.{needed, optional, sized_text, tables_of, unless_unknown, whole_between}
use Rattle.tox_time.specs.Steps.{◌>>=◌, map_err}
use Rattle.tox_time.specs.declared.streams.stream.Stream.{Stream}
use Rattle.tox_script.specs.chains.Toxics.{read_toxics}
use Rattle.tox_script.specs.declared.chains.Chains.{Chains}
use Rattle.tox_script.specs.declared.fault.Field.{Field}
use Rattle.tox_script.specs.declared.fault.Field.TheVariants as field
use Rattle.tox_script.specs.declared.fault.ScriptFault.{ScriptFault}
use Rattle.tox_script.specs.declared.fault.ScriptFault.TheVariants as fault
use Rattle.tox_script.specs.declared.settings.Settings.{Settings}

-- the fields of a rule's table
pub record RuleFields : Type 0 where
  pub proxy : List ℕ
  pub first : ℕ
  pub last : Option ℕ
  pub toxics : Items

-- the name of a rule's proxy
abbrev pub proxy_field : Data → Result (List ℕ) Field
proxy_field d = needed field.Proxy (sized_text 255) (get (codes "proxy") d)

-- the first connection of a rule
abbrev pub first_field : Data → Result ℕ Field
first_field d = needed field.First (whole_between 1 1_000_000) (get (codes "first") d)

-- the last connection of a rule, where it has one
abbrev pub last_field : ℕ → Data → Result (Option ℕ) Field
last_field first d = optional field.Last (whole_between first 1_000_000) (get (codes "last") d)

-- the fields of a rule's table, or the first that isn't as it must be
abbrev pub rule_fields : Data → Result RuleFields Field
rule_fields d = do
  proxy ← proxy_field d
  first ← first_field d
  last ← last_field first d
  toxics ← tables_of field.Toxic (get (codes "toxic") d)
  unless_unknown
      (codes "proxy" ∷ codes "first" ∷ codes "last" ∷ codes "toxic" ∷ []) d
      (record { proxy = proxy; first = first; last = last; toxics = toxics })

-- a rule: its proxy's name, its first and its last connection, the toxics of each stream, and in the file's order the
-- stream of each toxic and whether its toxicity is given as a decimal text
pub record Rule : Type 0 where
  pub proxy : List ℕ
  pub first : ℕ
  pub last : Option ℕ
  pub chains : Chains
  pub order : List Stream
  pub decimals : List Bool

-- what a script is seen as: its settings, and its rules in the file's order
pub record Rules : Type 0 where
  pub settings : Settings
  pub rules : List Rule

-- the rule of the table of a number, or its first fault
abbrev pub rule_of : Settings → ℕ → Data → Result Rule ScriptFault
rule_of settings number d = do
  fields ← map_err (fault.Field (record { rule = number; toxic = 0 })) (rule_fields d)
  toxics ← read_toxics settings number fields.toxics
  Ok (record {
    proxy = fields.proxy;
    first = fields.first;
    last = fields.last;
    chains = toxics.chains;
    order = toxics.order;
    decimals = toxics.decimals;
  })
