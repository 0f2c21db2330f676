-- The rule that a connection meets covers it.
use Rattle.std.proofs.Common.{◌≡◌, ℕ, zero, suc, ◌+◌, ◌≤◌, ◌&&◌, Bool, true, false, cond, List, [], ◌∷◌, nat_le, slice_get, Option, None, Some, arith, refl}
use Rattle.std.proofs.Common.{sym, ap, ◌∙◌}
use Rattle.std.specs.List.{position_from}
use Rattle.std.specs.Prelude.{option_map}
use Rattle.std.specs.Str.{bytes_eq}
use Rattle.std.proofs.lemmas.Bool.{and_parts, leb-true}
use Rattle.std.proofs.lemmas.Slice.Eq.{bytes_eq-Decides}
use Rattle.tox_script.specs.Covering.{covers, is_up_to}
use Rattle.tox_script.specs.Rule.{Rule, Rules}
use Rattle.tox_script.specs.index.Numbered.{covering_number}
use Rattle.tox_check.specs.Checking.{met}
use Rattle.tox_check.specs.Coverage.{last_of}

-- the first index that passes isn't before the first index
position_from-begins : {X : Type 0} (test : X → Bool) (n : ℕ) (xs : List X) (i : ℕ) → position_from test n xs ≡ Some i → n ≤ i
position_from-begins test n [] i found = absurd (cc)
position_from-begins test n (x ∷ xs) i found = at (test x) (λ later. let h = position_from-begins test (n + 1) xs i later in omega arith) found
  where
    at : (passes : Bool) → (position_from test (n + 1) xs ≡ Some i → n ≤ i) → cond passes (Some n) (position_from test (n + 1) xs) ≡ Some i → n ≤ i
    at true later found = let same : n ≡ i = cc in omega arith
    at false later found = later found

-- the element at the first index that passes does
position_from-passes : {X : Type 0} (test : X → Bool) (n : ℕ) (xs : List X) (k : ℕ) (x : X) → position_from test n xs ≡ Some (n + k) → slice_get xs k ≡ Some x
    → test x ≡ true
position_from-passes test n [] k x found is = absurd (cc)
position_from-passes test n (y ∷ ys) zero x found is = at (test y) refl found
  where
    at : (passes : Bool) → test y ≡ passes → cond passes (Some n) (position_from test (n + 1) ys) ≡ Some (n + 0) → test x ≡ true
    at true passes found = let same : y ≡ x = cc in ap test (sym same) ∙ passes
    at false passes found = let past : n + 1 ≤ n + 0 = position_from-begins test (n + 1) ys (n + 0) found in absurd (omega arith)
position_from-passes test n (y ∷ ys) (suc k) x found is = at (test y) (λ later. let more : n + suc k ≡ (n + 1) + k = omega arith in
    position_from-passes test (n + 1) ys k x (later ∙ ap (λ i. Some i) more) is) found
  where
    at : (passes : Bool) → (position_from test (n + 1) ys ≡ Some (n + suc k) → test x ≡ true)
        → cond passes (Some n) (position_from test (n + 1) ys) ≡ Some (n + suc k) → test x ≡ true
    at true later found = let same : n ≡ n + suc k = cc in absurd (omega arith)
    at false later found = later found

-- a rule covers a connection of its own proxy, in its own range
pub record IsOwn (name : List ℕ) (conn : ℕ) (rule : Rule) : Type 0 where
  pub proxy : rule.proxy ≡ name
  pub begins : rule.first ≤ conn
  pub ends : conn ≤ 1_000_000 → conn ≤ last_of rule.last

within_last : (conn : ℕ) (last : Option ℕ) → is_up_to conn last ≡ true → conn ≤ 1_000_000 → conn ≤ last_of last
within_last conn None up most = omega arith
within_last conn (Some last) up most = let h = leb-true conn last up in omega arith

pub covers-own : (name : List ℕ) (conn : ℕ) (rule : Rule) → covers name conn rule ≡ true → IsOwn name conn rule
covers-own name conn rule covered =
    let ends = and_parts (bytes_eq rule.proxy name && nat_le rule.first conn) (is_up_to conn rule.last) covered in
    let begins = and_parts (bytes_eq rule.proxy name) (nat_le rule.first conn) ends.0 in
    record {
      proxy = (bytes_eq-Decides rule.proxy name).0 begins.0;
      begins = leb-true rule.first conn begins.1;
      ends = within_last conn rule.last ends.1;
    }

-- a connection meets only a rule that covers it
pub covering_number-own : (name : List ℕ) (conn : ℕ) (script : Rules) (number : ℕ) (rule : Rule) → covering_number name conn script ≡ Some number
    → slice_get script.rules number ≡ Some rule → IsOwn name conn rule
covering_number-own name conn script number rule found is =
    let from : number ≡ 0 + number = omega arith in
    covers-own name conn rule (position_from-passes (covers name conn) 0 script.rules number rule (found ∙ ap (λ i. Some i) from) is)

-- the rule that is met, by its number from 0
pub met-number : (name : List ℕ) (script : Rules) (conn number : ℕ) → met name script conn ≡ Some (number + 1) → covering_number name conn script ≡ Some number
met-number name script conn number is = at (covering_number name conn script) is
  where
    at : (found : Option ℕ) → option_map (λ rule. rule + 1) found ≡ Some (number + 1) → found ≡ Some number
    at None is = absurd (cc)
    at (Some rule) is = let more : rule + 1 ≡ number + 1 = cc in let same : rule ≡ number = omega arith in ap (λ r. Some r) same
