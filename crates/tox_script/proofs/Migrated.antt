-- A script of version 1, and the document of version 2 that is made of it.
use Rattle.std.proofs.Common.{◌≡◌, ℕ, ◌≤◌, Bool, true, false, cond, List, [], codes, Option, Some, None, option_map, unwrap_or, Result, Ok, Err, refl, sym, ap}
use Rattle.std.proofs.Common.{◌∙◌, arith}
use Rattle.std.specs.List.{find}
use Rattle.std.specs.Str.{IsUtf8}
use Rattle.toml.specs.Data.{Data, array, table, Items, no_items, get, members_depth, members_have_valid_dates, is_sorted}
use Rattle.toml.specs.Parse.{parse_document}
use Rattle.tox_script.proofs.AcceptedRule.{rules_shallow, tables_array}
use Rattle.tox_script.proofs.AcceptedToxic.{optional_read}
use Rattle.tox_script.proofs.Migrating.{in_version, rules_two}
use Rattle.tox_time.proofs.Steps.{bind_ok, bind_from, map_err_ok}
use Rattle.tox_script.proofs.Texts.{toml_of-text}
use Rattle.tox_script.specs.chains.Chains.{on}
use Rattle.tox_script.specs.Covering.{chains_in, covers, toxics_for}
use Rattle.tox_script.specs.fields.Document.{DocumentFields, document_fields, document_keys}
use Rattle.tox_script.specs.fields.Fields.{all_tables, has_only, optional, tables, tables_of}
use Rattle.tox_script.specs.Migrated.{IsMigrated, in_version_1, rules_in, version_2}
use Rattle.tox_script.specs.Rule.{Rule, Rules}
use Rattle.tox_script.specs.Script.{rules_from, script_in, script_of, toml_of}
use Rattle.tox_script.specs.Settings.{lanes_of, settings_of, version_of}
use Rattle.tox_script.specs.declared.fault.Field.{Field}
use Rattle.tox_script.specs.declared.fault.Field.TheVariants as field
use Rattle.tox_script.specs.declared.fault.Location.{Location}
use Rattle.tox_script.specs.declared.fault.ScriptFault.TheVariants as fault
use Rattle.tox_script.specs.declared.settings.Settings.{Settings}
use Rattle.tox_script.specs.declared.version.Version.{Version}
use Rattle.tox_script.specs.declared.version.Version.TheVariants.{One, Two}
use Rattle.tox_time.specs.Steps.{◌>>=◌, map_err}
use Rattle.tox_time.specs.declared.streams.stream.Stream.{Stream}
use Rattle.tox_words.specs.declared.lanes.Lanes.{Lanes}
use Rattle.tox_words.specs.declared.lanes.Lanes.TheVariants.{Sixteen}

-- what a document of version 1 was read as
pub record IsVersion1 (d : Data) (script : Rules) : Type 0 where
  pub tables : Items
  pub rules : rules_in d ≡ array tables
  pub are_tables : all_tables tables ≡ true
  pub settings : script.settings ≡ in_version Sixteen One
  pub read : rules_from (in_version Sixteen One) [] tables ≡ Ok script.rules

rules_read : (o : Option Data) (ds : Items) → tables_of field.Rule o ≡ Ok ds → (unwrap_or o (array no_items) ≡ array ds) × (all_tables ds ≡ true)
rules_read None ds is = let same : no_items ≡ ds = cc in rw (← same) (refl, refl)
rules_read (Some d) ds is =
    let (values, was, gives) = bind_ok (optional field.Rule tables (Some d)) (λ vs. Ok (unwrap_or vs no_items)) ds is in
    let (y, read, there) = optional_read field.Rule tables (Some d) d values refl was in
    let same : y ≡ ds = cc in
    rw same at (tables_array d y read)

settings_read : (d : Data) (settings : Settings) → settings_of d ≡ Ok settings → settings.version ≡ One → settings ≡ in_version Sixteen One
settings_read d settings is version =
    let (v, was_version, rest) = bind_ok (version_of d) (λ v. lanes_of v d >>= (λ l. Ok (record { version = v; lanes = l }))) settings is in
    at v (lanes_of v d) refl rest
  where
    at : (v : Version) (lanes : Result Lanes Field) → lanes_of v d ≡ lanes → (lanes >>= (λ l. Ok (record { version = v; lanes = l }))) ≡ Ok settings
        → settings ≡ in_version Sixteen One
    at v (Err e) reported is = absurd (cc)
    at Two (Ok l) reported is = absurd (cc)
    at One (Ok l) reported is = cc

fields_read : (d : Data) (settings : Result Settings Field) (rules : Result Items Field) (known : Version → Bool) (fields : DocumentFields)
    → settings_of d ≡ settings → tables_of field.Rule (get (codes "rule") d) ≡ rules
    → (settings >>= (λ s. rules >>= (λ r. cond (known s.version) (Ok (record { settings = s; rules = r })) (Err field.Unknown)))) ≡ Ok fields
    → (settings_of d ≡ Ok fields.settings) × (tables_of field.Rule (get (codes "rule") d) ≡ Ok fields.rules)
fields_read d (Err e) rules known fields es er is = absurd (cc)
fields_read d (Ok s) (Err e) known fields es er is = absurd (cc)
fields_read d (Ok s) (Ok r) known fields es er is = at (known s.version) is
  where
    at : (passes : Bool) → cond passes (Ok (record { settings = s; rules = r })) (Err field.Unknown) ≡ Ok fields
        → (settings_of d ≡ Ok fields.settings) × (tables_of field.Rule (get (codes "rule") d) ≡ Ok fields.rules)
    at false is = absurd (cc)
    at true is = let one : s ≡ fields.settings = cc in let other : r ≡ fields.rules = cc in (rw (← one) es, rw (← other) er)

read_alike : (s t : Settings) (ds : Items) (rules others : List Rule) → s ≡ t → rules ≡ others → rules_from s [] ds ≡ Ok rules → rules_from t [] ds ≡ Ok others
read_alike s t ds rules others same alike is = rw (← same, ← alike) is

pub IsVersion1-read : (d : Data) (script : Rules) → script_in (Some d) ≡ Ok script → script.settings.version ≡ One → IsVersion1 d script
IsVersion1-read d script is version =
    let at : Location = record { rule = 0; toxic = 0 } in
    let (fields, was_fields, rest) = bind_ok (map_err (fault.Field at) (document_fields d))
    (λ (fields : DocumentFields). rules_from fields.settings [] fields.rules >>= (λ rules. Ok (record { settings = fields.settings; rules = rules })))
    script is in
    let (rules, was_rules, made) = bind_ok (rules_from fields.settings [] fields.rules) (λ rules. Ok (record { settings = fields.settings; rules = rules }))
    script rest in
    let read = fields_read d (settings_of d) (tables_of field.Rule (get (codes "rule") d)) (λ v. has_only (document_keys v) d) fields refl refl
    (map_err_ok (fault.Field at) (document_fields d) fields was_fields) in
    let same : fields.settings ≡ script.settings = cc in
    let same_rules : rules ≡ script.rules = cc in
    let settings = settings_read d fields.settings read.0 (ap (λ (s : Settings). s.version) same ∙ version) in
    let tables = rules_read (get (codes "rule") d) fields.rules read.1 in
    record {
      tables = fields.rules;
      rules = tables.0;
      are_tables = tables.1;
      settings = sym same ∙ settings;
      read = read_alike fields.settings (in_version Sixteen One) fields.rules rules script.rules settings same_rules was_rules;
    }

-- the document of version 2 can be printed
pub version_2-shallow : (d : Data) (script : Rules) → IsVersion1 d script → is_sorted (rules_in d) ≡ true
    → (members_depth (version_2 (rules_in d)) ≤ 80) × (members_have_valid_dates (version_2 (rules_in d)) ≡ true)
version_2-shallow d script old sorted =
    let all = rules_shallow (in_version Sixteen One) [] old.tables script.rules old.read (rw old.rules at sorted) in
    rw old.rules (omega (arith, all.deep), rw all.dates refl)

-- and reads as the same rules
pub version_2-read : (d : Data) (script : Rules) → IsVersion1 d script → script_in (Some (table (version_2 (rules_in d))))
    ≡ Ok (record { settings = in_version Sixteen Two; rules = script.rules })
version_2-read d script old =
    let rules = rules_two Sixteen [] old.tables script.rules old.read in
    rw (old.rules, old.are_tables, rules) refl

-- which give each connection the same
pub toxics_for-same : (script : Rules) (proxy : List ℕ) (conn : ℕ) (stream : Stream) → script.settings ≡ in_version Sixteen One
    → toxics_for proxy conn stream (record { settings = in_version Sixteen Two; rules = script.rules }) ≡ toxics_for proxy conn stream script
toxics_for-same script proxy conn stream is =
    ap (λ (settings : Settings). on stream (chains_in settings.lanes (find (covers proxy conn) script.rules))) (sym is)

-- so its text is the migrated one
pub IsMigrated-read : (old migrated : List ℕ) (d : Data) (script : Rules) → toml_of old ≡ Some d → script_in (Some d) ≡ Ok script
    → script.settings.version ≡ One
    → IsUtf8 migrated → parse_document migrated ≡ Some (version_2 (rules_in d)) → IsMigrated old migrated
IsMigrated-read old migrated d script reported read version text parsed =
    let one = IsVersion1-read d script read version in
    record {
      before = script;
      after = record { settings = in_version Sixteen Two; rules = script.rules };
      read_before =
          bind_from (script_of old) (λ (s : Rules). in_version_1 s.settings.version s) script script
          (ap script_in reported ∙ read) (ap (λ v. in_version_1 v script) version);
      read_after = ap script_in (toml_of-text migrated text ∙ ap (option_map table) parsed) ∙ version_2-read d script one;
      version = refl;
      same = λ proxy conn stream. toxics_for-same script proxy conn stream one.settings;
    }
