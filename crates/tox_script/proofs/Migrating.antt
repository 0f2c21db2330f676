-- What a script of version 1 says, the same tables say in version 2.
use Rattle.std.proofs.Common.{◌≡◌, ℕ, ◌+◌, List, [], ◌∷◌, ◌++◌, length, Option, Some, None, Ok, ok_or, refl, sym, ap, ◌∙◌}
use Rattle.toml.specs.Data.{Data, string, integer, float, boolean, datetime, array, table, Items, no_items, item}
use Rattle.tox_defs.specs.Toxic.{toxic_named}
use Rattle.tox_defs.specs.declared.fault.ToxicFault.TheVariants.{UnknownType, ToxicityNotThousandths}
use Rattle.tox_script.proofs.AcceptedToxic.{IsNamed-read, named_with}
use Rattle.tox_time.proofs.Steps.{bind_ok, bind_from, map_err_ok}
use Rattle.tox_script.specs.fields.Attributes.{toxic_with}
use Rattle.tox_script.specs.Rule.{Rule, RuleFields, rule_fields, rule_of}
use Rattle.tox_script.specs.Script.{rules_from}
use Rattle.tox_script.specs.chains.Toxic.{NamedToxic, named_toxic}
use Rattle.tox_script.specs.fields.ToxicFields.{ToxicFields, toxic_fields}
use Rattle.tox_script.specs.fields.Toxicity.{written_toxicity, toxicity_in}
use Rattle.tox_script.specs.chains.Toxics.{RuleToxics, behind, read_toxics, toxic_at, toxics_from, toxics_of}
use Rattle.tox_script.specs.declared.fault.Location.{Location}
use Rattle.tox_script.specs.declared.fault.ScriptFault.TheVariants as fault
use Rattle.tox_script.specs.declared.settings.Settings.{Settings}
use Rattle.tox_script.specs.declared.version.Version.{Version}
use Rattle.tox_script.specs.declared.version.Version.TheVariants.{One, Two}
use Rattle.tox_time.specs.Steps.{◌>>=◌, map_err}
use Rattle.tox_words.specs.declared.lanes.Lanes.{Lanes}

written_two : (d : Data) (n : ℕ) → written_toxicity One d ≡ Some n → written_toxicity Two d ≡ Some n
written_two (string s) n is = absurd (cc)
written_two (integer z) n is = is
written_two (float f) n is = absurd (cc)
written_two (boolean b) n is = absurd (cc)
written_two (datetime dt) n is = absurd (cc)
written_two (array ds) n is = absurd (cc)
written_two (table ms) n is = absurd (cc)

toxicity_two : (o : Option Data) (n : ℕ) → toxicity_in One o ≡ Some n → toxicity_in Two o ≡ Some n
toxicity_two None n is = is
toxicity_two (Some d) n is = written_two d n is

named_two : (fields : ToxicFields) (named : NamedToxic) → named_toxic One fields ≡ Ok named → named_toxic Two fields ≡ Ok named
named_two fields named is =
    let read = IsNamed-read One fields (toxic_named fields.type_name) (toxicity_in One fields.toxicity) named refl is in
    let same : toxicity_in Two fields.toxicity ≡ toxicity_in One fields.toxicity = toxicity_two fields.toxicity read.toxicity read.is_toxicity
    ∙ sym read.is_toxicity in
    ap (λ (toxicity : Option ℕ). ok_or (toxic_named fields.type_name) UnknownType >>=
    (λ k. ok_or toxicity ToxicityNotThousandths >>= (λ t. toxic_with k fields.attributes >>= (λ x. Ok (named_with fields t x))))) same
    ∙ is

toxic_two : (at : Location) (d : Data) (toxic : NamedToxic) → toxic_at One at d ≡ Ok toxic → toxic_at Two at d ≡ Ok toxic
toxic_two at d toxic is =
    let (fields, read, named) = bind_ok (map_err (fault.Field at) (toxic_fields d)) (λ fields. map_err (fault.Toxic at) (named_toxic One fields)) toxic is in
    bind_from (map_err (fault.Field at) (toxic_fields d)) (λ fields. map_err (fault.Toxic at) (named_toxic Two fields)) fields toxic read
    (ap (map_err (fault.Toxic at)) (named_two fields toxic (map_err_ok (fault.Toxic at) (named_toxic One fields) toxic named)))

module _ (lanes : Lanes) where
  -- the settings of so many lanes
  abbrev pub in_version : Version → Settings
  in_version version = record { version = version; lanes = lanes }

  toxics_two : (rule : ℕ) (earlier : List NamedToxic) (ds : Items) (toxics : List NamedToxic) → toxics_from (in_version One) rule earlier ds ≡ Ok toxics
      → toxics_from (in_version Two) rule earlier ds ≡ Ok toxics
  toxics_two rule earlier no_items toxics is = is
  toxics_two rule earlier (item d ds) toxics is =
      let at : Location = record { rule = rule; toxic = length earlier + 1 } in
      let (next, was_next, rest) = bind_ok (toxic_at One at d >>= behind lanes at earlier) (λ ts. toxics_from (in_version One) rule ts ds) toxics is in
      let (toxic, was_toxic, stands) = bind_ok (toxic_at One at d) (behind lanes at earlier) next was_next in
      bind_from (toxic_at Two at d >>= behind lanes at earlier) (λ ts. toxics_from (in_version Two) rule ts ds) next toxics
      (bind_from (toxic_at Two at d) (behind lanes at earlier) toxic next (toxic_two at d toxic was_toxic) stands)
      (toxics_two rule next ds toxics rest)

  read_two : (rule : ℕ) (ds : Items) (made : RuleToxics) → read_toxics (in_version One) rule ds ≡ Ok made → read_toxics (in_version Two) rule ds ≡ Ok made
  read_two rule ds made is =
      let (toxics, was, joined) = bind_ok (toxics_from (in_version One) rule [] ds) (λ toxics. Ok (toxics_of lanes toxics)) made is in
      bind_from (toxics_from (in_version Two) rule [] ds) (λ toxics. Ok (toxics_of lanes toxics)) toxics made (toxics_two rule [] ds toxics was) joined

  -- the rule of some fields with these toxics
  abbrev rule_with : RuleFields → RuleToxics → Rule
  rule_with fields toxics = record {
    proxy = fields.proxy;
    first = fields.first;
    last = fields.last;
    chains = toxics.chains;
    order = toxics.order;
    decimals =
        toxics.decimals;
  }

  rule_two : (number : ℕ) (d : Data) (rule : Rule) → rule_of (in_version One) number d ≡ Ok rule → rule_of (in_version Two) number d ≡ Ok rule
  rule_two number d rule is =
      let at : Location = record { rule = number; toxic = 0 } in
      let (fields, read, was) = bind_ok (map_err (fault.Field at) (rule_fields d))
      (λ (fields : RuleFields). read_toxics (in_version One) number fields.toxics >>= (λ made. Ok (rule_with fields made))) rule is in
      let (toxics, was_toxics, made) = bind_ok (read_toxics (in_version One) number fields.toxics) (λ made. Ok (rule_with fields made)) rule was in
      bind_from (map_err (fault.Field at) (rule_fields d)) (λ (fields : RuleFields).
      read_toxics (in_version Two) number fields.toxics >>= (λ made. Ok (rule_with fields made))) fields rule read
      (bind_from (read_toxics (in_version Two) number fields.toxics) (λ made. Ok (rule_with fields made)) toxics rule
      (read_two number fields.toxics toxics was_toxics) made)

  -- tables that are accepted in version 1 are the same rules in version 2
  pub rules_two : (earlier : List Rule) (ds : Items) (rules : List Rule) → rules_from (in_version One) earlier ds ≡ Ok rules
      → rules_from (in_version Two) earlier ds ≡ Ok rules
  rules_two earlier no_items rules is = is
  rules_two earlier (item d ds) rules is =
      let (rule, was, rest) = bind_ok (rule_of (in_version One) (length earlier + 1) d) (λ rule. rules_from (in_version One) (earlier ++ rule ∷ []) ds) rules is
      in
      bind_from (rule_of (in_version Two) (length earlier + 1) d) (λ rule. rules_from (in_version Two) (earlier ++ rule ∷ []) ds) rule rules
      (rule_two (length earlier + 1) d rule was)
      (rules_two (earlier ++ rule ∷ []) ds rules rest)
