-- The fields of a script's document.
use Rattle.std.specs.Prelude.{ℕ, List, [], ◌∷◌, codes, Result}
use Rattle.toml.specs.Data.{Data, Items, get}
use Rattle.tox_script.specs.fields.Fields.{tables_of, unless_unknown}
use Rattle.tox_script.specs.Settings.{settings_of}
use Rattle.tox_script.specs.declared.fault.Field.{Field}
use Rattle.tox_script.specs.declared.fault.Field.TheVariants as field
use Rattle.tox_script.specs.declared.settings.Settings.{Settings}
use Rattle.tox_script.specs.declared.version.Version.{Version}
use Rattle.tox_script.specs.declared.version.Version.TheVariants.{One, Two}
use Rattle.tox_time.specs.Steps.{◌>>=◌}

-- the settings of a document, and the tables of its rules
pub record DocumentFields : Type 0 where
  pub settings : Settings
  pub rules : Items

-- the keys that a document may have
abbrev pub document_keys : Version → List (List ℕ)
document_keys One = codes "version" ∷ codes "rule" ∷ []
document_keys Two = codes "version" ∷ codes "lanes" ∷ codes "rule" ∷ []

-- the fields of a document, or the first that isn't as it must be
abbrev pub document_fields : Data → Result DocumentFields Field
document_fields d = do
  settings ← settings_of d
  rules ← tables_of field.Rule (get (codes "rule") d)
  unless_unknown (document_keys settings.version) d (record { settings = settings; rules = rules })
