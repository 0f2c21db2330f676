-- Decimal digits: they are text, and they write a number.
use Rattle.std.proofs.Common.{◌≡◌, ℕ, ◌+◌, ◌-◌, ◌*◌, ◌^◌, ◌<◌, ◌≤◌, Bool, true, false, List, length, take, None, IsUtf8, refl, get_or, inl, inr, lit<, arith}
use Rattle.std.proofs.Common.{rules, tests}
use Rattle.std.specs.Char.{is_ascii_digit, digit_value}
use Rattle.std.specs.List.{list_all}
use Rattle.std.specs.Str.Parse.{digits_value}
use Rattle.std.proofs.lemmas.Bool.{cases_lt}
use Rattle.std.proofs.lemmas.Grind.{common_steps}
use Rattle.std.proofs.lemmas.Int.Digits.{digits_value_more}
use Rattle.std.proofs.lemmas.List.{get_or_past}
use Rattle.std.proofs.lemmas.List.Folds.{list_all_more}
use Rattle.std.proofs.lemmas.List.Sums.{AllPass-from_list_all}
use Rattle.std.proofs.lemmas.Str.{IsUtf8-from_ascii}
use Rattle.std.proofs.lemmas.Str.Parse.{digits_value_short}
use Rattle.tox_time.specs.Text.{decimal_value}
use Rattle.tox_time.proofs.Numbers.{ascii_digits}

digit_below : (c : ℕ) → is_ascii_digit c ≡ true → c < 128
digit_below c digit = search (rules, tests)

-- digits are text
pub IsUtf8-digits : (text : List ℕ) → list_all is_ascii_digit text ≡ true → IsUtf8 text
IsUtf8-digits text all =
    IsUtf8-from_ascii text (λ i. elim (cases_lt i (length text)) [
      | inl within ↦ digit_below (get_or text i 0) (AllPass-from_list_all is_ascii_digit text all i 0 within)
      | inr past ↦ rw (get_or_past text i 0 past) (lit< tt)
    ])

-- what is no text is no decimal number
pub no_decimal : (digits greatest : ℕ) (text : List ℕ) → (IsUtf8 text → ⊥) → None ≡ decimal_value digits greatest text
no_decimal digits greatest text no_text = by_digits (list_all is_ascii_digit text) refl
  where
    by_digits : (all : Bool) → list_all is_ascii_digit text ≡ all → None ≡ decimal_value digits greatest text
    by_digits true all = absurd (no_text (IsUtf8-digits text all))
    by_digits false all = grind (arith, common_steps, all)

digit_is : (c : ℕ) → is_ascii_digit c ≡ true → digit_value c ≡ c - 48
digit_is c digit = search (rules, tests)

-- before a last digit of at most 16 the value has at most 15 digits
pub value_below : (text : List ℕ) (i : ℕ) → i < length text → length text ≤ 16 → list_all is_ascii_digit (take i text) ≡ true
    → digits_value 10 (take i text) < 10 ^ 15
value_below text i within few all = digits_value_short ascii_digits (take i text) 15 all (grind (arith, common_steps))

-- a digit more
pub digits_more : (text : List ℕ) (i : ℕ) → i < length text → list_all is_ascii_digit (take i text) ≡ true → is_ascii_digit (get_or text i 0) ≡ true
    → list_all is_ascii_digit (take (i + 1) text) ≡ true
digits_more text i within all digit = grind (arith, common_steps, list_all_more is_ascii_digit text i 0 within)

-- its value
pub value_more : (text : List ℕ) (i : ℕ) → i < length text → is_ascii_digit (get_or text i 0) ≡ true
    → 10 * digits_value 10 (take i text) + (get_or text i 0 - 48) ≡ digits_value 10 (take (i + 1) text)
value_more text i within digit = omega (arith, digits_value_more 10 text i within, digit_is (get_or text i 0) digit)
