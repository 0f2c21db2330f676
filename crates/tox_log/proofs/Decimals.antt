-- Numbers without leading zeros are read back, and nothing else is.
use Rattle.std.proofs.Common.{zero, suc, ◌≡◌, ℕ, ◌^◌, ◌<◌, ◌≤◌, Bool, true, false, List, length, Option, Some, None, get_or, IsUtf8, refl, ap, sym, ◌∙◌, arith}
use Rattle.std.proofs.Common.{MatchOption}
use Rattle.std.specs.Prelude.{◌≢◌, ◌&&◌, nat_le, nat_lt, if◌then◌else◌}
use Rattle.std.specs.Char.{is_ascii_digit}
use Rattle.std.specs.Fmt.{decimal}
use Rattle.std.specs.List.{list_all}
use Rattle.std.specs.Str.Parse.{digits_value}
use Rattle.std.proofs.lemmas.Bool.{and_parts}
use Rattle.std.proofs.lemmas.Bool.Decides.{nat_tests}
use Rattle.std.proofs.lemmas.Fmt.{decimal_digit, decimal_nonempty, decimal-digits_value, digits_decimal, digits_value-decimal, first_decimal, length-decimal-le}
use Rattle.std.proofs.lemmas.Grind.{common_steps}
use Rattle.tox_time.proofs.Numbers.{ascii_digits}
use Rattle.tox_time.specs.Text.{decimal_value, is_decimal, is_sized}
use Rattle.tox_text.proofs.Digits.{no_decimal}

-- a printed number is read
pub value-decimal : (greatest n : ℕ) → greatest < 2 ^ 64 → n ≤ greatest → decimal_value 20 greatest (decimal n) ≡ Some n
value-decimal greatest n fits within =
    let wide : n < 2 ^ 64 = omega arith in
    let some = decimal_nonempty n wide in
    let short = length-decimal-le 20 n (omega arith) (omega arith) wide in
    let digits = digits_decimal ascii_digits n wide in
    let value = digits_value-decimal ascii_digits n wide in
    grind (arith, common_steps)

-- a printed number of two digits or more begins with none
pub no_zero : (n : ℕ) → n < 2 ^ 64 → get_or (decimal n) 0 0 ≡ 48 → 1 < length (decimal n) → ⊥
no_zero zero fits zero_first long = let one = ap length (decimal_digit 0 (omega arith)) in omega (arith, one)
no_zero (suc n) fits zero_first long = let first = first_decimal (suc n) (omega arith) fits in omega (arith, first)

sized : (text : List ℕ) → is_sized 20 text ≡ true → 0 < length text
sized text is = let parts = and_parts (nat_lt 0 (length text)) (nat_le (length text) 20) is in grind (arith, nat_tests)

-- a text that is read so, and has no leading zero, is that number as it is printed
pub decimal-value : (greatest n : ℕ) (text : List ℕ) → greatest < 2 ^ 64 → (get_or text 0 0 ≡ 48 → length text ≤ 1) → decimal_value 20 greatest text ≡ Some n
    → (n ≤ greatest) × (text ≡ decimal n)
decimal-value greatest n text fits lead read = by (is_decimal 20 text) (nat_le (digits_value 10 text) greatest) refl refl read
  where
    by : (are : Bool) (within : Bool) → is_decimal 20 text ≡ are → nat_le (digits_value 10 text) greatest ≡ within
        → (if (are && within) then Some (digits_value 10 text) else None) ≡ Some n
        → (n ≤ greatest) × (text ≡ decimal n)
    by true true are within read =
        let value : digits_value 10 text ≡ n = cc in
        let below : digits_value 10 text ≤ greatest = grind (arith, nat_tests) in
        let parts = and_parts (is_sized 20 text) (list_all is_ascii_digit text) are in
        let some : 0 < length text = sized text parts.0 in (
          omega (arith, value, below),
          sym (ap decimal (sym value) ∙ decimal-digits_value ascii_digits text parts.1 some (λ zero_first. omega (arith, lead zero_first, some))
              (omega (arith, below))),
        )
    by true false are within read = absurd (cc)
    by false within are out read = absurd (cc)

-- what is read of a text, where it has no leading zero
pub read-number : (greatest : ℕ) (text : List ℕ) (read : Option ℕ) → greatest < 2 ^ 64 → (get_or text 0 0 ≡ 48 → length text ≤ 1)
    → read ≡ decimal_value 20 greatest text
    → MatchOption read ((n : ℕ) → n ≤ greatest → text ≢ decimal n) (λ n. (n ≤ greatest) × (text ≡ decimal n))
read-number greatest text (Some n) fits lead is = decimal-value greatest n text fits lead (sym is)
read-number greatest text None fits lead is = λ n within same.
    let none : None ≡ Some n = is ∙ ap (decimal_value 20 greatest) same ∙ value-decimal greatest n fits within in cc

-- what is no text is no number
pub no-text : (greatest n : ℕ) (text : List ℕ) → greatest < 2 ^ 64 → (IsUtf8 text → ⊥) → n ≤ greatest → text ≡ decimal n → ⊥
no-text greatest n text fits no_text within same =
    let none : None ≡ Some n = no_decimal 20 greatest text no_text ∙ ap (decimal_value 20 greatest) same ∙ value-decimal greatest n fits within in cc
