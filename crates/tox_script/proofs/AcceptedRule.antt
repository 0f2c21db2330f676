-- The tables of rules nest four levels at most, where they are accepted.
use Rattle.std.proofs.Common.{◌≡◌, ℕ, ◌+◌, Bool, true, false, cond, List, [], ◌∷◌, ◌++◌, codes, length, Option, Some, option_and_then, unwrap_or, Result, Ok}
use Rattle.std.proofs.Common.{Err, refl, ap, ◌∙◌, arith}
use Rattle.std.proofs.lemmas.Bool.{and_parts}
use Rattle.toml.specs.Data.{Data, string, integer, float, boolean, datetime, array, table, Items, no_items, item, get, is_sorted, items_are_sorted}
use Rattle.tox_script.proofs.AcceptedToxic.{AtEach-among, IsFound, needed_read, optional_read, toxic_shallow}
use Rattle.tox_script.proofs.Shallow.{IsShallow, IsShallow-scalar, ItemsAreShallow, MembersAreShallow-each, is_among-found, is_scalar, is_scalar-read}
use Rattle.tox_time.proofs.Steps.{bind_ok, map_err_ok, passing_some}
use Rattle.tox_script.specs.fields.Fields.{all_tables, has_only, is_between, natural, optional, sized_text, tables, tables_of, whole_between}
use Rattle.tox_script.specs.Rule.{Rule, RuleFields, first_field, last_field, proxy_field, rule_fields, rule_of}
use Rattle.tox_script.specs.Script.{rules_from}
use Rattle.tox_script.specs.chains.Toxic.{NamedToxic}
use Rattle.tox_script.specs.chains.Toxics.{behind, read_toxics, toxic_at, toxics_from, toxics_of}
use Rattle.tox_script.specs.declared.fault.Field.{Field}
use Rattle.tox_script.specs.declared.fault.Field.TheVariants as field
use Rattle.tox_script.specs.declared.fault.Location.{Location}
use Rattle.tox_script.specs.declared.fault.ScriptFault.TheVariants as fault
use Rattle.tox_script.specs.declared.settings.Settings.{Settings}
use Rattle.tox_time.specs.Steps.{◌>>=◌, map_err}
use Rattle.tox_time.specs.Text.{is_sized, passing}

-- the tables of accepted toxics
toxics_shallow : (settings : Settings) (rule : ℕ) (earlier : List NamedToxic) (ds : Items) (toxics : List NamedToxic)
    → toxics_from settings rule earlier ds ≡ Ok toxics → items_are_sorted ds ≡ true
    → ItemsAreShallow 2 ds
toxics_shallow settings rule earlier no_items toxics is sorted = record { deep = omega arith; dates = refl }
toxics_shallow settings rule earlier (item d ds) toxics is sorted =
    let at : Location = record { rule = rule; toxic = length earlier + 1 } in
    let (here, more) = and_parts (is_sorted d) (items_are_sorted ds) sorted in
    let (next, was_next, rest) = bind_ok (toxic_at settings.version at d >>= behind settings.lanes at earlier) (λ ts. toxics_from settings rule ts ds) toxics is
    in
    let (toxic, was_toxic, stands) = bind_ok (toxic_at settings.version at d) (behind settings.lanes at earlier) next was_next in
    let first = toxic_shallow settings.version at d toxic was_toxic here in
    let others = toxics_shallow settings rule next ds toxics rest more in
    record { deep = omega (arith, first.deep, others.deep); dates = rw (first.dates, others.dates) refl }

-- the values of an array of tables
pub tables_array : (d : Data) (ds : Items) → tables d ≡ Some ds → (d ≡ array ds) × (all_tables ds ≡ true)
tables_array (array es) ds is =
    let (tested, same) = passing_some es ds (all_tables es) is in
    (ap array same, rw same at tested)
tables_array (string s) ds is = absurd (cc)
tables_array (integer z) ds is = absurd (cc)
tables_array (float f) ds is = absurd (cc)
tables_array (boolean b) ds is = absurd (cc)
tables_array (datetime dt) ds is = absurd (cc)
tables_array (table ms) ds is = absurd (cc)

-- the array that some tables were read from
pub tables_found : (f : Field) (o : Option Data) (e : Data) (ds : Items) → o ≡ Some e → tables_of f o ≡ Ok ds → e ≡ array ds
tables_found f o e ds found read =
    let (values, was, gives) = bind_ok (optional f tables o) (λ vs. Ok (unwrap_or vs no_items)) ds read in
    let (y, is, there) = optional_read f tables o e values found was in
    let same : y ≡ ds = cc in
    (tables_array e y is).0 ∙ ap array same

-- the keys of a rule's table
abbrev rule_keys : List (List ℕ)
rule_keys = codes "proxy" ∷ codes "first" ∷ codes "last" ∷ codes "toxic" ∷ []

-- the fields of an accepted rule were each read
record AreRuleFields (d : Data) (fields : RuleFields) : Type 0 where
  proxy : proxy_field d ≡ Ok fields.proxy
  first : first_field d ≡ Ok fields.first
  last : last_field fields.first d ≡ Ok fields.last
  toxics : tables_of field.Toxic (get (codes "toxic") d) ≡ Ok fields.toxics
  known : has_only rule_keys d ≡ true

abbrev rule_with : List ℕ → ℕ → Option ℕ → Items → RuleFields
rule_with proxy first last toxics = record { proxy = proxy; first = first; last = last; toxics = toxics }

AreRuleFields-last : (d : Data) (p : List ℕ) (f : ℕ) (last : Result (Option ℕ) Field) (toxics : Result Items Field) (known : Bool) (fields : RuleFields)
    → proxy_field d ≡ Ok p → first_field d ≡ Ok f
    → last_field f d ≡ last → tables_of field.Toxic (get (codes "toxic") d) ≡ toxics → has_only rule_keys d ≡ known
    → (last >>= (λ l. toxics >>= (λ t. cond known (Ok (rule_with p f l t)) (Err field.Unknown)))) ≡ Ok fields → AreRuleFields d fields
AreRuleFields-last d p f (Err e) toxics known fields ep ef el et ek is = absurd (cc)
AreRuleFields-last d p f (Ok l) (Err e) known fields ep ef el et ek is = absurd (cc)
AreRuleFields-last d p f (Ok l) (Ok t) false fields ep ef el et ek is = absurd (cc)
AreRuleFields-last d p f (Ok l) (Ok t) true fields ep ef el et ek is =
    let same : rule_with p f l t ≡ fields = cc in
    rw (← same) (record { proxy = ep; first = ef; last = el; toxics = et; known = ek })

AreRuleFields-read : (d : Data) (proxy : Result (List ℕ) Field) (first : Result ℕ Field) (fields : RuleFields) → proxy_field d ≡ proxy → first_field d ≡ first
    → (proxy >>= (λ p. first >>= (λ f. last_field f d >>= (λ l. tables_of field.Toxic (get (codes "toxic") d) >>=
    (λ t. cond (has_only rule_keys d) (Ok (rule_with p f l t)) (Err field.Unknown)))))) ≡ Ok fields
    → AreRuleFields d fields
AreRuleFields-read d (Err e) first fields ep ef is = absurd (cc)
AreRuleFields-read d (Ok p) (Err e) fields ep ef is = absurd (cc)
AreRuleFields-read d (Ok p) (Ok f) fields ep ef is =
    AreRuleFields-last d p f (last_field f d) (tables_of field.Toxic (get (codes "toxic") d)) (has_only rule_keys d) fields ep ef refl refl refl is

sized_scalar : (most : ℕ) (d : Data) (text : List ℕ) → sized_text most d ≡ Some text → is_scalar d ≡ true
sized_scalar most d text is = is_scalar-read d (λ s z. option_and_then (passing (is_sized most)) s) text refl is

between_scalar : (least most : ℕ) (d : Data) (n : ℕ) → whole_between least most d ≡ Some n → is_scalar d ≡ true
between_scalar least most d n is = is_scalar-read d (λ s z. option_and_then (passing (is_between least most)) (option_and_then natural z)) n refl is

-- the table of an accepted rule
rule_shallow : (settings : Settings) (number : ℕ) (d : Data) (rule : Rule) → rule_of settings number d ≡ Ok rule → is_sorted d ≡ true → IsShallow 4 d
rule_shallow settings number (string s) rule is sorted = absurd (cc)
rule_shallow settings number (integer z) rule is sorted = absurd (cc)
rule_shallow settings number (float f) rule is sorted = absurd (cc)
rule_shallow settings number (boolean b) rule is sorted = absurd (cc)
rule_shallow settings number (datetime dt) rule is sorted = absurd (cc)
rule_shallow settings number (array ds) rule is sorted = absurd (cc)
rule_shallow settings number (table ms) rule is sorted =
    let d : Data = table ms in
    let at : Location = record { rule = number; toxic = 0 } in
    let (fields, was_read, was_rule) = bind_ok (map_err (fault.Field at) (rule_fields d))
    (λ (fields : RuleFields). read_toxics settings number fields.toxics >>=
    (λ made. Ok (record {
      proxy = fields.proxy;
      first = fields.first;
      last = fields.last;
      chains = made.chains;
      order = made.order;
      decimals =
          made.decimals;
    }))) rule is in
    let read = AreRuleFields-read d (proxy_field d) (first_field d) fields refl refl (map_err_ok (fault.Field at) (rule_fields d) fields was_read) in
    let (made, was_made, done) = bind_ok (read_toxics settings number fields.toxics)
    (λ made. Ok (record {
      proxy = fields.proxy;
      first = fields.first;
      last = fields.last;
      chains = made.chains;
      order = made.order;
      decimals =
          made.decimals;
    })) rule was_rule in
    let (toxics, was_toxics, joined) = bind_ok (toxics_from settings number [] fields.toxics) (λ toxics. Ok (toxics_of settings.lanes toxics)) made was_made in
    let proxy : IsFound 3 ms (codes "proxy") = λ e found here.
    IsShallow-scalar 3 e (sized_scalar 255 e fields.proxy (needed_read field.Proxy (sized_text 255) (get (codes "proxy") d) e fields.proxy found read.proxy)) in
    let first : IsFound 3 ms (codes "first") = λ e found here.
    IsShallow-scalar 3 e (between_scalar 1 1_000_000 e fields.first (needed_read field.First (whole_between 1 1_000_000) (get (codes "first") d) e fields.first
    found read.first)) in
    let last : IsFound 3 ms (codes "last") = λ e found here.
    let (y, gives, same) = optional_read field.Last (whole_between fields.first 1_000_000) (get (codes "last") d) e fields.last found read.last in
    IsShallow-scalar 3 e (between_scalar fields.first 1_000_000 e y gives) in
    let toxic : IsFound 3 ms (codes "toxic") = λ e found here.
    let same = tables_found field.Toxic (get (codes "toxic") d) e fields.toxics found read.toxics in
    let all = toxics_shallow settings number [] fields.toxics toxics was_toxics (rw same at here) in
    rw same (record { deep = omega (arith, all.deep); dates = all.dates }) in
    let all = MembersAreShallow-each 3 ms sorted
    (λ key e found here. AtEach-among (IsFound 3 ms) rule_keys key (proxy, (first, (last, (toxic, tt)))) (is_among-found rule_keys ms key e read.known found) e
    found here) in
    record { deep = omega (arith, all.deep); dates = all.dates }

-- the tables of accepted rules
pub rules_shallow : (settings : Settings) (earlier : List Rule) (ds : Items) (rules : List Rule) → rules_from settings earlier ds ≡ Ok rules
    → items_are_sorted ds ≡ true → ItemsAreShallow 4 ds
rules_shallow settings earlier no_items rules is sorted = record { deep = omega arith; dates = refl }
rules_shallow settings earlier (item d ds) rules is sorted =
    let (here, more) = and_parts (is_sorted d) (items_are_sorted ds) sorted in
    let (rule, was_rule, rest) = bind_ok (rule_of settings (length earlier + 1) d) (λ rule. rules_from settings (earlier ++ rule ∷ []) ds) rules is in
    let first = rule_shallow settings (length earlier + 1) d rule was_rule here in
    let others = rules_shallow settings (earlier ++ rule ∷ []) ds rules rest more in
    record { deep = omega (arith, first.deep, others.deep); dates = rw (first.dates, others.dates) refl }
