-- The table of a toxic nests two levels at most, where it is accepted.
use Rattle.std.proofs.Common.{◌≡◌, ℕ, Bool, true, false, cond, ◌||◌, List, [], ◌∷◌, codes, map, Option, Some, None, option_and_then, option_map, unwrap_or}
use Rattle.std.proofs.Common.{Result, Ok, Err, ok_or, refl, sym, ◌∙◌, arith}
use Rattle.std.proofs.lemmas.Slice.Eq.{bytes_eq-Decides}
use Rattle.std.specs.Str.{bytes_eq}
use Rattle.toml.specs.Data.{Data, string, integer, float, boolean, datetime, array, table, Members, as_str, get, get_member, is_sorted, members_are_sorted}
use Rattle.tox_defs.specs.Toxic.{attributes_of, checked, toxic_named, with_values}
use Rattle.tox_defs.specs.declared.fault.ToxicFault.{ToxicFault}
use Rattle.tox_defs.specs.declared.fault.ToxicFault.TheVariants.{OutOfRange, UnknownAttribute, UnknownType, ToxicityNotThousandths}
use Rattle.tox_defs.specs.declared.toxic.Toxic.{Toxic as AnyToxic}
use Rattle.tox_script.proofs.Shallow.{IsShallow, IsShallow-scalar, MembersAreShallow, MembersAreShallow-each, is_among-found, is_scalar, is_scalar-read}
use Rattle.tox_time.proofs.Steps.{bind_ok, map_err_ok, ok_or_ok, passing_some}
use Rattle.tox_script.specs.fields.Attributes.{all_some, toxic_with, value_in, values_in}
use Rattle.tox_script.specs.fields.Fields.{has_only, is_among, is_between, is_table, natural, needed, optional, whole}
use Rattle.tox_script.specs.chains.Toxic.{NamedToxic, default_name, named_toxic}
use Rattle.tox_script.specs.fields.ToxicFields.{ToxicFields, attributes_field, is_plain, name_field, plain_name, stream_field, stream_text, toxic_fields}
use Rattle.tox_script.specs.fields.ToxicFields.{type_field}
use Rattle.tox_script.specs.fields.Toxicity.{is_decimal, written_toxicity, toxicity_in}
use Rattle.tox_script.specs.chains.Toxics.{toxic_at}
use Rattle.tox_script.specs.declared.fault.Field.{Field}
use Rattle.tox_script.specs.declared.fault.Field.TheVariants as field
use Rattle.tox_script.specs.declared.fault.Location.{Location}
use Rattle.tox_script.specs.declared.fault.ScriptFault.TheVariants as fault
use Rattle.tox_script.specs.declared.version.Version.{Version}
use Rattle.tox_script.specs.declared.version.Version.TheVariants.{One, Two}
use Rattle.tox_time.specs.Steps.{◌>>=◌, map_err}
use Rattle.tox_time.specs.streams.StreamName.{stream_named}
use Rattle.tox_time.specs.Text.{is_sized, passing}
use Rattle.tox_time.specs.declared.streams.stream.Stream.{Stream}
use Rattle.tox_time.specs.declared.streams.stream.Stream.TheVariants.{Downstream}

-- what holds of each of some texts
abbrev pub AtEach : (List ℕ → Type 0) → List (List ℕ) → Type 0
AtEach P [] = Unit {0}
AtEach P (text ∷ texts) = P text × AtEach P texts

either : (P : List ℕ → Type 0) (text key : List ℕ) (rest : Bool) (same : Bool) → bytes_eq text key ≡ same → (same || rest) ≡ true → P text
    → (rest ≡ true → P key) → P key
either P text key rest true is any here others = let one : text ≡ key = (bytes_eq-Decides text key).0 is in rw (← one) here
either P text key rest false is any here others = others any

-- it holds of a text that is among them
pub AtEach-among : (P : List ℕ → Type 0) (texts : List (List ℕ)) (key : List ℕ) → AtEach P texts → is_among texts key ≡ true → P key
AtEach-among P [] key each among = absurd (cc)
AtEach-among P (text ∷ texts) key each among = either P text key (is_among texts key) (bytes_eq text key) refl among each.0 (AtEach-among P texts key each.1)

some_of : {A : Type 0} (f : Field) (r : Option A) (x : Option A) → ok_or (option_map Some r) f ≡ Ok x → (y : A) × (r ≡ Some y) × (x ≡ Some y)
some_of f (Some y) x is = (y, refl, cc)
some_of f None x is = absurd (cc)

-- a field that is there was read
pub optional_read : {A : Type 0} (f : Field) (read : Data → Option A) (o : Option Data) (e : Data) (x : Option A) → o ≡ Some e → optional f read o ≡ Ok x
    → (y : A) × (read e ≡ Some y) × (x ≡ Some y)
optional_read f read None e x there is = absurd (cc)
optional_read f read (Some d) e x there is = let same : d ≡ e = cc in rw same at (some_of f (read d) x is)

pub needed_read : {A : Type 0} (f : Field) (read : Data → Option A) (o : Option Data) (e : Data) (x : A) → o ≡ Some e → needed f read o ≡ Ok x → read e ≡ Some x
needed_read f read None e x there is = absurd (cc)
needed_read f read (Some d) e x there is = let same : d ≡ e = cc in rw same at (ok_or_ok (read d) f x is)

plain_scalar : (d : Data) (name : List ℕ) → plain_name d ≡ Some name → is_scalar d ≡ true
plain_scalar d name is = is_scalar-read d (λ s z. option_and_then (passing is_plain) (option_and_then (passing (is_sized 64)) s)) name refl is

stream_scalar : (d : Data) (stream : Stream) → stream_text d ≡ Some stream → is_scalar d ≡ true
stream_scalar d stream is = is_scalar-read d (λ s z. option_and_then stream_named s) stream refl is

text_scalar : (d : Data) (text : List ℕ) → as_str d ≡ Some text → is_scalar d ≡ true
text_scalar d text is = is_scalar-read d (λ s z. s) text refl is

pub whole_scalar : (d : Data) (n : ℕ) → whole d ≡ Some n → is_scalar d ≡ true
whole_scalar d n is = is_scalar-read d (λ s z. option_and_then natural z) n refl is

written_scalar : (version : Version) (d : Data) (n : ℕ) → written_toxicity version d ≡ Some n → is_scalar d ≡ true
written_scalar One d n is = is_scalar-read d (λ s z. option_and_then (passing (is_between 0 1000)) (option_and_then natural z)) n refl is
written_scalar Two (string s) n is = refl
written_scalar Two (integer z) n is = refl
written_scalar Two (float f) n is = absurd (cc)
written_scalar Two (boolean b) n is = absurd (cc)
written_scalar Two (datetime dt) n is = absurd (cc)
written_scalar Two (array ds) n is = absurd (cc)
written_scalar Two (table ms) n is = absurd (cc)

toxicity_scalar : (version : Version) (o : Option Data) (d : Data) (n : ℕ) → o ≡ Some d → toxicity_in version o ≡ Some n → is_scalar d ≡ true
toxicity_scalar version None d n there is = absurd (cc)
toxicity_scalar version (Some e) d n there is = let same : d ≡ e = cc in rw same (written_scalar version e n is)

-- a text has a value
abbrev HasValue : (List ℕ → Option ℕ) → List ℕ → Type 0
HasValue f text = (value : ℕ) × (f text ≡ Some value)

-- each value of a list that has all of them is there
all_some-step : (f : List ℕ → Option ℕ) (text : List ℕ) (texts : List (List ℕ)) (values : List ℕ) (first : Option ℕ) (others : Option (List ℕ)) → f text ≡ first
    → option_and_then (λ y. option_map (λ ys. y ∷ ys) others) first ≡ Some values
    → ((rest : List ℕ) → others ≡ Some rest → AtEach (HasValue f) texts) → AtEach (HasValue f) (text ∷ texts)
all_some-step f text texts values None others one is more = absurd (cc)
all_some-step f text texts values (Some value) None one is more = absurd (cc)
all_some-step f text texts values (Some value) (Some rest) one is more = ((value, one), more rest refl)

all_some-each : (f : List ℕ → Option ℕ) (texts : List (List ℕ)) (values : List ℕ) → all_some (map f texts) ≡ Some values → AtEach (HasValue f) texts
all_some-each f [] values is = tt
all_some-each f (text ∷ texts) values is =
    all_some-step f text texts values (f text) (all_some (map f texts)) refl is (all_some-each f texts)

-- attributes that are accepted are known, and each is a whole number
pub record AreAttributes (zeros : AnyToxic) (d : Data) : Type 0 where
  pub known : has_only (attributes_of zeros) d ≡ true
  pub values : AtEach (HasValue (value_in (Some d))) (attributes_of zeros)

attributes_read : (zeros : AnyToxic) (d : Data) (known : Bool) (values : Option (List ℕ)) (toxic : AnyToxic) → has_only (attributes_of zeros) d ≡ known
    → values_in zeros (Some d) ≡ values
    → cond known (ok_or values OutOfRange >>= (λ vs. checked (with_values zeros vs))) (Err UnknownAttribute) ≡ Ok toxic → AreAttributes zeros d
attributes_read zeros d false values toxic known all is = absurd (cc)
attributes_read zeros d true None toxic known all is = absurd (cc)
attributes_read zeros d true (Some vs) toxic known all is =
    record { known = known; values = all_some-each (value_in (Some d)) (attributes_of zeros) vs all }

value_scalar : (ms : Members) (key : List ℕ) (e : Data) → HasValue (value_in (Some (table ms))) key → get_member key ms ≡ Some e → is_scalar e ≡ true
value_scalar ms key e has found = whole_scalar e has.0 (rw found at has.1)

-- a table of accepted attributes has whole numbers alone
attributes_shallow : (zeros : AnyToxic) (d : Data) (toxic : AnyToxic) → is_table d ≡ true → toxic_with zeros (Some d) ≡ Ok toxic → is_sorted d ≡ true
    → IsShallow 1 d
attributes_shallow zeros (string s) toxic is gives sorted = absurd (cc)
attributes_shallow zeros (integer z) toxic is gives sorted = absurd (cc)
attributes_shallow zeros (float f) toxic is gives sorted = absurd (cc)
attributes_shallow zeros (boolean b) toxic is gives sorted = absurd (cc)
attributes_shallow zeros (datetime dt) toxic is gives sorted = absurd (cc)
attributes_shallow zeros (array ds) toxic is gives sorted = absurd (cc)
attributes_shallow zeros (table ms) toxic is gives sorted =
    let read = attributes_read zeros (table ms) (has_only (attributes_of zeros) (table ms)) (values_in zeros (Some (table ms))) toxic refl refl gives in
    let all = MembersAreShallow-each 0 ms sorted
    (λ key e found here. IsShallow-scalar 0 e
    (value_scalar ms key e (AtEach-among (HasValue (value_in (Some (table ms)))) (attributes_of zeros) key read.values
    (is_among-found (attributes_of zeros) ms key e read.known found)) found)) in
    record { deep = omega (arith, all.deep); dates = all.dates }

-- the keys of a toxic's table
abbrev toxic_keys : List (List ℕ)
toxic_keys = codes "name" ∷ codes "type" ∷ codes "stream" ∷ codes "toxicity" ∷ codes "attributes" ∷ []

-- the fields of an accepted toxic were each read
record AreFields (d : Data) (fields : ToxicFields) : Type 0 where
  name : name_field d ≡ Ok fields.name
  type_name : type_field d ≡ Ok fields.type_name
  stream : stream_field d ≡ Ok fields.stream
  attributes : attributes_field d ≡ Ok fields.attributes
  toxicity : get (codes "toxicity") d ≡ fields.toxicity
  known : has_only toxic_keys d ≡ true

abbrev fields_with : Option (List ℕ) → List ℕ → Stream → Option Data → Option Data → ToxicFields
fields_with name type_name stream attributes toxicity =
    record { name = name; type_name = type_name; stream = stream; toxicity = toxicity; attributes = attributes }

AreFields-read : (d : Data) (name : Result (Option (List ℕ)) Field) (type_name : Result (List ℕ) Field) (stream : Result Stream Field)
    (attributes : Result (Option Data) Field) (known : Bool) (fields : ToxicFields)
    → name_field d ≡ name → type_field d ≡ type_name → stream_field d ≡ stream → attributes_field d ≡ attributes → has_only toxic_keys d ≡ known
    → (name >>= (λ n. type_name >>= (λ t. stream >>= (λ s. attributes >>=
    (λ a. cond known (Ok (fields_with n t s a (get (codes "toxicity") d))) (Err field.Unknown)))))) ≡ Ok fields
    → AreFields d fields
AreFields-read d (Err e) type_name stream attributes known fields en et es ea ek is = absurd (cc)
AreFields-read d (Ok n) (Err e) stream attributes known fields en et es ea ek is = absurd (cc)
AreFields-read d (Ok n) (Ok t) (Err e) attributes known fields en et es ea ek is = absurd (cc)
AreFields-read d (Ok n) (Ok t) (Ok s) (Err e) known fields en et es ea ek is = absurd (cc)
AreFields-read d (Ok n) (Ok t) (Ok s) (Ok a) false fields en et es ea ek is = absurd (cc)
AreFields-read d (Ok n) (Ok t) (Ok s) (Ok a) true fields en et es ea ek is =
    let same : fields_with n t s a (get (codes "toxicity") d) ≡ fields = cc in
    rw (← same) (record { name = en; type_name = et; stream = es; attributes = ea; toxicity = refl; known = ek })

-- what an accepted toxic's fields stood for
pub record IsNamed (version : Version) (fields : ToxicFields) : Type 0 where
  pub zeros : AnyToxic
  pub toxicity : ℕ
  pub toxic : AnyToxic
  pub is_toxicity : toxicity_in version fields.toxicity ≡ Some toxicity
  pub is_toxic : toxic_with zeros fields.attributes ≡ Ok toxic

abbrev pub named_with : ToxicFields → ℕ → AnyToxic → NamedToxic
named_with fields toxicity toxic = record {
  stream = fields.stream;
  entry = record { toxic = toxic; toxicity = toxicity };
  name = unwrap_or fields.name (default_name toxic fields.stream);
  is_decimal = is_decimal fields.toxicity;
}

IsNamed-last : (version : Version) (fields : ToxicFields) (zeros : AnyToxic) (toxicity : ℕ) (toxic : Result AnyToxic ToxicFault) (named : NamedToxic)
    → toxicity_in version fields.toxicity ≡ Some toxicity
    → toxic_with zeros fields.attributes ≡ toxic → (toxic >>= (λ x. Ok (named_with fields toxicity x))) ≡ Ok named → IsNamed version fields
IsNamed-last version fields zeros toxicity (Err e) named et ex is = absurd (cc)
IsNamed-last version fields zeros toxicity (Ok x) named et ex is = record { zeros = zeros; toxicity = toxicity; toxic = x; is_toxicity = et; is_toxic = ex }

pub IsNamed-read : (version : Version) (fields : ToxicFields) (zeros : Option AnyToxic) (toxicity : Option ℕ) (named : NamedToxic)
    → toxicity_in version fields.toxicity ≡ toxicity
    → (ok_or zeros UnknownType >>= (λ k. ok_or toxicity ToxicityNotThousandths >>= (λ t. toxic_with k fields.attributes >>= (λ x. Ok (named_with fields t x)))))
    ≡ Ok named → IsNamed version fields
IsNamed-read version fields None toxicity named et is = absurd (cc)
IsNamed-read version fields (Some zeros) None named et is = absurd (cc)
IsNamed-read version fields (Some zeros) (Some toxicity) named et is = IsNamed-last version fields zeros toxicity (toxic_with zeros fields.attributes) named et
    refl is

-- what a value of a toxic's table is, where a key finds it
abbrev pub IsFound : ℕ → Members → List ℕ → Type 0
IsFound levels ms key = (e : Data) → get_member key ms ≡ Some e → is_sorted e ≡ true → IsShallow levels e

attributes_found : (ms : Members) (fields : ToxicFields) (zeros : AnyToxic) (toxic : AnyToxic) (e : Data) → attributes_field (table ms) ≡ Ok fields.attributes
    → toxic_with zeros fields.attributes ≡ Ok toxic
    → get_member (codes "attributes") ms ≡ Some e → is_sorted e ≡ true → IsShallow 1 e
attributes_found ms fields zeros toxic e read gives found sorted =
    let (y, passes, is) = optional_read field.Attributes (passing is_table) (get (codes "attributes") (table ms)) e fields.attributes found read in
    let (tested, same) = passing_some e y (is_table e) passes in
    attributes_shallow zeros e toxic tested (rw (is, ← same) at gives) sorted

members_shallow : (version : Version) (ms : Members) (fields : ToxicFields) → AreFields (table ms) fields → IsNamed version fields
    → members_are_sorted ms ≡ true → MembersAreShallow 1 ms
members_shallow version ms fields read named sorted =
    let name : IsFound 1 ms (codes "name") = λ e found here.
    let (y, gives, is) = optional_read field.Name plain_name (get (codes "name") (table ms)) e fields.name found read.name in
    IsShallow-scalar 1 e (plain_scalar e y gives) in
    let type_name : IsFound 1 ms (codes "type") = λ e found here.
    IsShallow-scalar 1 e (text_scalar e fields.type_name (needed_read field.Type as_str (get (codes "type") (table ms)) e fields.type_name found
    read.type_name)) in
    let stream : IsFound 1 ms (codes "stream") = λ e found here.
    let (s, gives, is) = bind_ok (optional field.Stream stream_text (get (codes "stream") (table ms))) (λ s. Ok (unwrap_or s Downstream)) fields.stream
    read.stream in
    let (y, text, same) = optional_read field.Stream stream_text (get (codes "stream") (table ms)) e s found gives in
    IsShallow-scalar 1 e (stream_scalar e y text) in
    let toxicity : IsFound 1 ms (codes "toxicity") = λ e found here.
    IsShallow-scalar 1 e (toxicity_scalar version fields.toxicity e named.toxicity (sym read.toxicity ∙ found) named.is_toxicity) in
    let attributes : IsFound 1 ms (codes "attributes") = λ e found here.
    attributes_found ms fields named.zeros named.toxic e read.attributes named.is_toxic found here in
    MembersAreShallow-each 1 ms sorted
    (λ key e found here. AtEach-among (IsFound 1 ms) toxic_keys key (name, (type_name, (stream, (toxicity, (attributes, tt)))))
    (is_among-found toxic_keys ms key e read.known found) e found here)

-- the table of an accepted toxic nests two levels
pub toxic_shallow : (version : Version) (at : Location) (d : Data) (toxic : NamedToxic) → toxic_at version at d ≡ Ok toxic → is_sorted d ≡ true → IsShallow 2 d
toxic_shallow version at (string s) toxic is sorted = absurd (cc)
toxic_shallow version at (integer z) toxic is sorted = absurd (cc)
toxic_shallow version at (float f) toxic is sorted = absurd (cc)
toxic_shallow version at (boolean b) toxic is sorted = absurd (cc)
toxic_shallow version at (datetime dt) toxic is sorted = absurd (cc)
toxic_shallow version at (array ds) toxic is sorted = absurd (cc)
toxic_shallow version at (table ms) toxic is sorted =
    let d : Data = table ms in
    let (fields, was_read, was_named) = bind_ok (map_err (fault.Field at) (toxic_fields d)) (λ fields. map_err (fault.Toxic at) (named_toxic version fields))
    toxic is in
    let read = AreFields-read d (name_field d) (type_field d) (stream_field d) (attributes_field d) (has_only toxic_keys d) fields refl refl refl refl refl
    (map_err_ok (fault.Field at) (toxic_fields d) fields was_read) in
    let named = IsNamed-read version fields (toxic_named fields.type_name) (toxicity_in version fields.toxicity) toxic refl
    (map_err_ok (fault.Toxic at) (named_toxic version fields) toxic was_named) in
    let all = members_shallow version ms fields read named sorted in
    record { deep = omega (arith, all.deep); dates = all.dates }
