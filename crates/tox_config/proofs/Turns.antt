-- One turn of the loop over the values.
use Rattle.std.proofs.Common.{◌≡◌, ℕ, ◌+◌, ◌<◌, ◌≤◌, Bool, true, false, List, [], ◌∷◌, ◌++◌, Some, None, Result, Ok, Err, get_or, length, drop, cond, leb}
use Rattle.std.proofs.Common.{arith, refl, sym, ap, ◌∙◌, append_assoc, append-nil, length-append}
use Rattle.std.proofs.lemmas.Bool.Decides.{nat_tests}
use Rattle.std.proofs.lemmas.List.{at_drop_more}
use Rattle.serde_json.specs.View.{items_view, view}
use Rattle.serde_json.specs.declared.value.Value.{Value}
use Rattle.serde_json.specs.Data.{Items, no_items, item}
use Rattle.tox_config.specs.LentProxy.{put}
use Rattle.tox_config.specs.Proxy.{Proxy, proxy_of}
use Rattle.tox_time.specs.Steps.{◌>>=◌}
use Rattle.tox_config.specs.Populate.{entries_of, front_of, most_names, populated, with_first}
use Rattle.tox_config.specs.declared.fault.ConfigFault.{ConfigFault}
use Rattle.tox_config.specs.declared.fault.ConfigFault.TheVariants.{TooMany}
use Rattle.tox_config.proofs.Limits.{onto, populated-few, populated-many}
use Rattle.tox_config.proofs.Puts.{entries_of-push}

-- the entries, unless a name at a place is one too many
abbrev pub within : ℕ → List Proxy → Result (List Proxy) ConfigFault
within place entries = cond (leb (length entries) most_names) (Ok entries) (Err (TooMany place))

-- the entries so far, and then those of the values that are left
abbrev pub entries_from : ℕ → Items → List Proxy → Result (List Proxy) ConfigFault
entries_from place no_items entries = Ok entries
entries_from place (item d ds) entries = proxy_of place d >>= (λ p. within place (put p entries) >>= entries_from (place + 1) ds)

-- one more proxy, within the limit or not, where the values behind it go on so
with_one_more : (place : ℕ) (done : List Proxy) (p : Proxy) (ds : Items) → length done ≡ place → length (entries_of done) ≤ most_names
    → (length (done ++ p ∷ []) ≡ place + 1 → length (entries_of (done ++ p ∷ [])) ≤ most_names
    → entries_from (place + 1) ds (entries_of (done ++ p ∷ [])) ≡ populated (onto (done ++ p ∷ []) (front_of (place + 1) ds)))
    → (within place (put p (entries_of done)) >>= entries_from (place + 1) ds) ≡ populated (onto (done ++ p ∷ []) (front_of (place + 1) ds))
with_one_more place done p ds long few rest = rw (← entries_of-push done p) (at (leb (length (entries_of (done ++ p ∷ []))) most_names) refl)
  where
    at : (b : Bool) → leb (length (entries_of (done ++ p ∷ []))) most_names ≡ b
        → (within place (entries_of (done ++ p ∷ [])) >>= entries_from (place + 1) ds) ≡ populated (onto (done ++ p ∷ []) (front_of (place + 1) ds))
    at true is = rw is (rest (omega (arith, length-append done (p ∷ []))) (grind (arith, nat_tests)))
    at false is = rw is (sym (populated-many done p (front_of (place + 1) ds) few (grind (arith, nat_tests)) ∙ ap (λ n. Err (TooMany n)) long))

-- behind proxies that are done, the entries so far and the values that are left give what the whole gives
entries_from-done : (ds : Items) (done : List Proxy) (place : ℕ) → length done ≡ place → length (entries_of done) ≤ most_names
    → entries_from place ds (entries_of done) ≡ populated (onto done (front_of place ds))
entries_from-done no_items done place long few = rw append-nil (sym (populated-few done None few))
entries_from-done (item d ds) done place long few = at (proxy_of place d) (λ p. entries_from-done ds (done ++ p ∷ []) (place + 1))
  where
    at : (read : Result Proxy ConfigFault)
        → ((p : Proxy) → length (done ++ p ∷ []) ≡ place + 1 → length (entries_of (done ++ p ∷ [])) ≤ most_names
        → entries_from (place + 1) ds (entries_of (done ++ p ∷ [])) ≡ populated (onto (done ++ p ∷ []) (front_of (place + 1) ds)))
        → (read >>= (λ p. within place (put p (entries_of done)) >>= entries_from (place + 1) ds))
        ≡ populated (onto done (with_first read (front_of (place + 1) ds)))
    at (Ok p) rest =
        with_one_more place done p ds long few (rest p)
        ∙ ap (λ proxies. populated (record (front_of (place + 1) ds) { proxies = proxies })) (append_assoc done (p ∷ []) (front_of (place + 1) ds).proxies)
    at (Err fault) rest = rw append-nil (sym (populated-few done (Some fault) few))

-- from the start the loop gives what the whole gives
pub entries_from-start : (ds : Items) → entries_from 0 ds [] ≡ populated (front_of 0 ds)
entries_from-start ds = entries_from-done ds [] 0 refl (omega arith)

-- what is left, from the value at a place on
entries_from-turn : (values : List Value) (value : Value) (place : ℕ) (entries : List Proxy) → (place < length values) × (value ≡ get_or values place value)
    → entries_from place (items_view (drop place values)) entries ≡ (proxy_of place (view value) >>=
    (λ p. within place (put p entries) >>= entries_from (place + 1) (items_view (drop (place + 1) values))))
entries_from-turn values value place entries here =
    at_drop_more (λ vs. entries_from place (items_view vs) entries) values place value here.0
    ∙ ap (λ v. proxy_of place (view v) >>= (λ p. within place (put p entries) >>= entries_from (place + 1) (items_view (drop (place + 1) values)))) (sym here.1)

-- a value whose proxy is within the limit
pub turn-ok : (values : List Value) (value : Value) (place : ℕ) (entries : List Proxy) (p : Proxy)
    → (place < length values) × (value ≡ get_or values place value) → proxy_of place (view value) ≡ Ok p
    → length (put p entries) ≤ most_names → entries_from place (items_view (drop place values)) entries
    ≡ entries_from (place + 1) (items_view (drop (place + 1) values)) (put p entries)
turn-ok values value place entries p here read few =
    let left = entries_from (place + 1) (items_view (drop (place + 1) values)) in
    let short : leb (length (put p entries)) most_names ≡ true = grind (arith, nat_tests) in
    entries_from-turn values value place entries here ∙ ap (λ r. r >>= (λ q. within place (put q entries) >>= left)) read ∙ rw short refl

-- a value that gives no proxy
pub turn-err : (values : List Value) (value : Value) (place : ℕ) (entries : List Proxy) (fault : ConfigFault)
    → (place < length values) × (value ≡ get_or values place value) → proxy_of place (view value) ≡ Err fault
    → entries_from place (items_view (drop place values)) entries ≡ Err fault
turn-err values value place entries fault here read =
    let left = entries_from (place + 1) (items_view (drop (place + 1) values)) in
    entries_from-turn values value place entries here ∙ ap (λ r. r >>= (λ q. within place (put q entries) >>= left)) read
