-- What a script's bytes say, over the document that `toml` reads of them.
use Rattle.std.specs.Prelude.{ℕ, ◌+◌, List, [], ◌∷◌, ◌++◌, length, Option, Some, None, option_map, Result, Ok, Err, if◌then◌else◌}
use Rattle.std.specs.Str.{is_utf8}
use Rattle.toml.specs.Data.{Data, table, Items, no_items, item}
use Rattle.toml.specs.Parse.{parse_document}
use Rattle.tox_script.specs.fields.Document.{document_fields}
use Rattle.tox_time.specs.Steps.{◌>>=◌, map_err}
use Rattle.tox_script.specs.Rule.{Rule, Rules, rule_of}
use Rattle.tox_script.specs.declared.fault.ScriptFault.{ScriptFault}
use Rattle.tox_script.specs.declared.fault.ScriptFault.TheVariants as fault
use Rattle.tox_script.specs.declared.settings.Settings.{Settings}

-- earlier rules and those of the tables behind them, or the first fault
abbrev pub rules_from : Settings → List Rule → Items → Result (List Rule) ScriptFault
rules_from settings earlier no_items = Ok earlier
rules_from settings earlier (item d ds) =
    rule_of settings (length earlier + 1) d
    >>= (λ rule. rules_from settings (earlier ++ rule ∷ []) ds)

-- the document of bytes that are TOML in UTF-8
abbrev pub toml_of : List ℕ → Option Data
toml_of bytes = if is_utf8 bytes then option_map table (parse_document bytes) else None

-- the script of a document
abbrev pub script_in : Option Data → Result Rules ScriptFault
script_in None = Err fault.NotToml
script_in (Some d) = do
  fields ← map_err (fault.Field (record { rule = 0; toxic = 0 })) (document_fields d)
  rules ← rules_from fields.settings [] fields.rules
  Ok (record { settings = fields.settings; rules = rules })

-- the script of some bytes, or its first fault
abbrev pub script_of : List ℕ → Result Rules ScriptFault
script_of bytes = script_in (toml_of bytes)
