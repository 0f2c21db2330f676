-- The first colon, and another behind it.
use Rattle.std.proofs.Common.{◌≡◌, ℕ, ◌<◌, ◌≢◌, Bool, true, false, Some, None, List, [], ◌∷◌, length, get_or, arith, refl, sym, ap, ◌∙◌}
use Rattle.std.specs.List.{list_any}
use Rattle.std.proofs.lemmas.Bool.Decides.{nat_tests}
use Rattle.std.proofs.lemmas.List.{get_or_default}
use Rattle.std.proofs.lemmas.List.Folds.{list_any_at, list_any_none}
use Rattle.std.proofs.lemmas.Str.Pattern.{contains_char, strip_prefix_char}
use Rattle.tox_time.specs.Text.{is_colon}
use Rattle.tox_serve.specs.Addresses.{has_no_host}
use Rattle.tox_serve.proofs.addresses.has_no_host.Goals as goal

-- whether a text has a colon, by where one stands
any_colon : (text : List ℕ) (found : Bool) → (found ≡ true → (k : ℕ) × (k < length text) × (get_or text k 0 ≡ 58))
    × ((k : ℕ) → k < length text → get_or text k 0 ≡ 58 → found ≡ true) → list_any is_colon text ≡ found
any_colon text true at =
    let there = at.0 refl in
    list_any_at is_colon text there.0 0 there.1 (rw there.2 refl)
any_colon text false at =
    list_any_none is_colon text (λ k d within.
    let other : get_or text k d ≢ 58 = λ e. let never : false ≡ true = at.1 k within (get_or_default text k 0 d within ∙ e) in cc in
    grind (arith, nat_tests, other))

-- an address that doesn't begin with a colon
not_first : (address : List ℕ) → ((rest : List ℕ) → address ≢ 58 ∷ rest) → has_no_host address ≡ false
not_first [] other = refl
not_first (first ∷ rest) other =
    let colon_not : first ≢ 58 = λ e. other rest (ap (λ byte. byte ∷ rest) e) in
    let no_colon : is_colon first ≡ false = grind (arith, nat_tests, colon_not) in
    rw no_colon refl

pub returns-in-Some : goal.returns-in-Some
returns-in-Some c =
    let address = c.args.address.now in
    let port = c.in-Some.port.now in
    let whole : address ≡ 58 ∷ port = strip_prefix_char 58 address (Some c.in-Some.port) c.in-Some.ensures.cases (omega arith) in
    let more : list_any is_colon port ≡ c.contains.result =
    any_colon port c.contains.result (contains_char 58 port c.contains.result c.contains.ensures.cases (omega arith)) in
    rw (whole, more) refl

pub returns-in-None : goal.returns-in-None
returns-in-None c =
    let address = c.args.address.now in
    sym (not_first address (strip_prefix_char 58 address None c.in-None.ensures.cases (omega arith)))
