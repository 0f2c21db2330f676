-- One turn of the loop over the tables of a rule's toxics.
use Rattle.std.proofs.Common.{◌≡◌, ℕ, ◌+◌, ◌<◌, Bool, List, [], ◌∷◌, ◌++◌, map, Result, Ok, Err, get_or, length, drop, refl, sym, ap, ◌∙◌}
use Rattle.std.proofs.lemmas.List.{at_drop_more, map-append}
use Rattle.tox_time.specs.declared.streams.stream.Stream.{Stream}
use Rattle.toml.specs.View.{items_view, view}
use Rattle.toml.specs.declared.value.Value.{Value}
use Rattle.tox_script.specs.chains.Chains.{put_toxic}
use Rattle.tox_time.specs.Steps.{◌>>=◌}
use Rattle.tox_script.specs.chains.Toxic.{NamedToxic}
use Rattle.tox_script.specs.chains.Toxics.{RuleToxics, behind, chains_of, read_toxics, toxic_at, toxics_from, toxics_of}
use Rattle.tox_script.specs.declared.chains.Chains.{Chains}
use Rattle.tox_script.specs.declared.fault.Location.{Location}
use Rattle.tox_script.specs.declared.fault.ScriptFault.{ScriptFault}
use Rattle.tox_script.specs.declared.settings.Settings.{Settings}
use Rattle.tox_script.proofs.ByStream.{length-behind, put_toxic-chains_of, toxics-behind}

-- what earlier toxics and those of the tables that are left make
abbrev pub toxics_behind : Settings → ℕ → List NamedToxic → List Value → Result RuleToxics ScriptFault
toxics_behind settings rule earlier values = toxics_from settings rule earlier (items_view values) >>= (λ toxics. Ok (toxics_of settings.lanes toxics))

-- chains and streams at an index are those of earlier toxics, with which the tables that are left give what all give
pub record IsReached (settings : Settings) (rule : ℕ) (values : List Value) (index : ℕ) (chains : Chains) (order : List Stream) (decimals : List Bool) : Type 0
  where
    pub earlier : List NamedToxic
    pub shown : chains ≡ chains_of settings.lanes earlier
    pub ordered : order ≡ map (λ toxic. toxic.stream) earlier
    pub given : decimals ≡ map (λ toxic. toxic.is_decimal) earlier
    pub count : length earlier ≡ index
    pub left : toxics_behind settings rule earlier (drop index values) ≡ read_toxics settings rule (items_view values)

-- the location of the toxic at an index
abbrev pub location : ℕ → ℕ → Location
location rule index = record { rule = rule; toxic = index + 1 }

-- the rule's toxics, once those so far are known
abbrev rest_from : Settings → ℕ → List Value → ℕ → Result (List NamedToxic) ScriptFault → Result RuleToxics ScriptFault
rest_from settings rule values index toxics = toxics >>= (λ ts. toxics_from settings rule ts (items_view (drop (index + 1) values))) >>=
    (λ ts. Ok (toxics_of settings.lanes ts))

-- the rule's toxics, once the one at an index is known
abbrev rest_of : Settings → ℕ → List Value → ℕ → List NamedToxic → Result NamedToxic ScriptFault → Result RuleToxics ScriptFault
rest_of settings rule values index earlier toxic = rest_from settings rule values index (toxic >>= behind settings.lanes (location rule index) earlier)

-- what the table at an index gives, and then the others
next : (settings : Settings) (rule : ℕ) (values : List Value) (index : ℕ) (value : Value) (earlier : List NamedToxic)
    → (index < length values) × (value ≡ get_or values index value) → length earlier ≡ index
    → toxics_behind settings rule earlier (drop index values)
    ≡ rest_of settings rule values index earlier (toxic_at settings.version (location rule index) (view value))
next settings rule values index value earlier here count =
    at_drop_more (toxics_behind settings rule earlier) values index value here.0
    ∙ ap (λ v. rest_from settings rule values index (toxic_at settings.version (location rule (length earlier)) (view v) >>= behind settings.lanes
    (location rule (length earlier)) earlier)) (sym here.1)
    ∙ ap (λ n. rest_from settings rule values index (toxic_at settings.version (location rule n) (view value) >>= behind settings.lanes (location rule n)
    earlier)) count

-- a toxic that can't stand behind the others ends the reading
pub read_toxics-refused : (settings : Settings) (rule : ℕ) (values : List Value) (index : ℕ) (value : Value) (chains : Chains) (order : List Stream)
    (decimals : List Bool) (toxic : NamedToxic) (fault : ScriptFault) → IsReached settings rule values index chains order decimals
    → (index < length values) × (value ≡ get_or values index value) → toxic_at settings.version (location rule index) (view value) ≡ Ok toxic
    → put_toxic (location rule index) toxic chains ≡ Err fault
    → read_toxics settings rule (items_view values) ≡ Err fault
read_toxics-refused settings rule values index value chains order decimals toxic fault reached here gives refuses =
    sym reached.left ∙ next settings rule values index value reached.earlier here reached.count
    ∙ ap (rest_of settings rule values index reached.earlier) gives
    ∙ at (behind settings.lanes (location rule index) reached.earlier toxic)
    (sym (put_toxic-chains_of settings.lanes (location rule index) reached.earlier toxic) ∙ ap (put_toxic (location rule index) toxic) (sym reached.shown)
    ∙ refuses)
  where
    at : (r : Result (List NamedToxic) ScriptFault) → (r >>= (λ toxics. Ok (chains_of settings.lanes toxics))) ≡ Err fault
        → rest_from settings rule values index r ≡ Err fault
    at (Ok toxics) is = absurd (cc)
    at (Err other) is = cc

-- what is said of each toxic, with one behind the others
each-behind : {A : Type 0} (f : NamedToxic → A) (said : List A) (earlier : List NamedToxic) (toxic : NamedToxic) (toxics : List NamedToxic)
    → said ≡ map f earlier → toxics ≡ earlier ++ toxic ∷ []
    → said ++ f toxic ∷ [] ≡ map f toxics
each-behind f said earlier toxic toxics was is = ap (λ ss. ss ++ f toxic ∷ []) was ∙ sym (map-append f earlier (toxic ∷ [])) ∙ ap (map f) (sym is)

-- a toxic that stands behind the others
pub IsReached-next : (settings : Settings) (rule : ℕ) (values : List Value) (index : ℕ) (value : Value) (chains further : Chains) (order : List Stream)
    (decimals : List Bool) (toxic : NamedToxic) → IsReached settings rule values index chains order decimals
    → (index < length values) × (value ≡ get_or values index value) → toxic_at settings.version (location rule index) (view value) ≡ Ok toxic
    → put_toxic (location rule index) toxic chains ≡ Ok further
    → IsReached settings rule values (index + 1) further (order ++ toxic.stream ∷ []) (decimals ++ toxic.is_decimal ∷ [])
IsReached-next settings rule values index value chains further order decimals toxic reached here gives puts =
    at (behind settings.lanes (location rule index) reached.earlier toxic) refl
    (sym (put_toxic-chains_of settings.lanes (location rule index) reached.earlier toxic) ∙ ap (put_toxic (location rule index) toxic) (sym reached.shown)
    ∙ puts)
  where
    at : (r : Result (List NamedToxic) ScriptFault) → behind settings.lanes (location rule index) reached.earlier toxic ≡ r
        → (r >>= (λ toxics. Ok (chains_of settings.lanes toxics))) ≡ Ok further
        → IsReached settings rule values (index + 1) further (order ++ toxic.stream ∷ []) (decimals ++ toxic.is_decimal ∷ [])
    at (Err other) stands is = absurd (cc)
    at (Ok toxics) stands is = record {
      earlier = toxics;
      shown = cc;
      ordered = each-behind (λ (t : NamedToxic). t.stream) order reached.earlier toxic toxics reached.ordered
          (toxics-behind settings.lanes (location rule index) reached.earlier toxic toxics stands);
      given = each-behind (λ (t : NamedToxic). t.is_decimal) decimals reached.earlier toxic toxics reached.given
          (toxics-behind settings.lanes (location rule index) reached.earlier toxic toxics stands);
      count = length-behind settings.lanes (location rule index) reached.earlier toxic toxics stands ∙ ap (λ n. n + 1) reached.count;
      left =
          sym (next settings rule values index value reached.earlier here reached.count ∙ ap (rest_of settings rule values index reached.earlier) gives
          ∙ ap (rest_from settings rule values index) stands)
          ∙ reached.left;
    }
