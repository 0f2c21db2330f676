-- A text is cut at its first such byte in one way.
use Rattle.std.proofs.Common.{◌≡◌, ℕ, ◌^◌, ◌<◌, ◌≤◌, true, List, [], ◌∷◌, ◌++◌, refl, subst, sym, arith}
use Rattle.std.specs.Prelude.{◌≢◌, nat_le}
use Rattle.std.specs.Char.{is_ascii_digit}
use Rattle.std.specs.Fmt.{decimal}
use Rattle.std.specs.List.{list_all}
use Rattle.std.proofs.lemmas.Bool.{and_parts}
use Rattle.std.proofs.lemmas.Bool.Decides.{nat_tests}
use Rattle.std.proofs.lemmas.Fmt.{digits_decimal}
use Rattle.std.proofs.lemmas.List.Elements.{All-cons, All-head, All-nil, All-tail}
use Rattle.tox_time.proofs.Numbers.{ascii_digits}
use Rattle.tox_log.specs.Numbers.{Lacks}

-- the parts before and behind the first such byte
pub cut-once : (byte : ℕ) (a b c d : List ℕ) → Lacks byte a → Lacks byte c → a ++ byte ∷ b ≡ c ++ byte ∷ d → (a ≡ c) × (b ≡ d)
cut-once byte [] b [] d lacks_a lacks_c same = (refl, cc)
cut-once byte [] b (y ∷ c) d lacks_a lacks_c same =
    let first : y ≡ byte = cc in
    absurd (All-head (λ other. other ≢ byte) y c lacks_c first)
cut-once byte (x ∷ a) b [] d lacks_a lacks_c same =
    let first : x ≡ byte = cc in
    absurd (All-head (λ other. other ≢ byte) x a lacks_a first)
cut-once byte (x ∷ a) b (y ∷ c) d lacks_a lacks_c same =
    let rest : a ++ byte ∷ b ≡ c ++ byte ∷ d = cc in
    let first : x ≡ y = cc in
    let parts = cut-once byte a b c d (All-tail (λ other. other ≢ byte) x a lacks_a) (All-tail (λ other. other ≢ byte) y c lacks_c) rest in
    let front : a ≡ c = parts.0 in (cc, parts.1)

-- such a byte stands behind none
pub stands : (byte : ℕ) (a b : List ℕ) → Lacks byte (a ++ byte ∷ b) → ⊥
stands byte [] b lacks = All-head (λ other. other ≢ byte) byte b lacks refl
stands byte (x ∷ a) b lacks = stands byte a b (All-tail (λ other. other ≢ byte) x (a ++ byte ∷ b) lacks)

-- the parts before and behind the last such byte
pub cut-last : (byte : ℕ) (a b c d : List ℕ) → Lacks byte b → Lacks byte d → a ++ byte ∷ b ≡ c ++ byte ∷ d → (a ≡ c) × (b ≡ d)
cut-last byte [] b [] d lacks_b lacks_d same = (refl, cc)
cut-last byte [] b (y ∷ c) d lacks_b lacks_d same =
    let rest : b ≡ c ++ byte ∷ d = cc in
    absurd (stands byte c d (subst (Lacks byte) rest lacks_b))
cut-last byte (x ∷ a) b [] d lacks_b lacks_d same =
    let rest : a ++ byte ∷ b ≡ d = cc in
    absurd (stands byte a b (subst (Lacks byte) (sym rest) lacks_d))
cut-last byte (x ∷ a) b (y ∷ c) d lacks_b lacks_d same =
    let rest : a ++ byte ∷ b ≡ c ++ byte ∷ d = cc in
    let first : x ≡ y = cc in
    let parts = cut-last byte a b c d lacks_b lacks_d rest in
    let front : a ≡ c = parts.0 in (cc, parts.1)

digits-lack : (byte : ℕ) (digits : List ℕ) → byte < 48 → list_all is_ascii_digit digits ≡ true → Lacks byte digits
digits-lack byte [] small all = All-nil (λ other. other ≢ byte)
digits-lack byte (d ∷ ds) small all =
    let parts = and_parts (is_ascii_digit d) (list_all is_ascii_digit ds) all in
    let is = and_parts (nat_le 48 d) (nat_le d 57) parts.0 in
    let least : 48 ≤ d = grind (arith, nat_tests) in
    All-cons (λ other. other ≢ byte) d ds (λ same. omega (arith, same, least, small)) (digits-lack byte ds small parts.1)

-- a printed number has neither a space nor a point
pub number-lacks : (byte n : ℕ) → byte < 48 → n < 2 ^ 64 → Lacks byte (decimal n)
number-lacks byte n small fits = digits-lack byte (decimal n) small (digits_decimal ascii_digits n fits)
