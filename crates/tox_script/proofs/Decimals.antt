-- How large a number of so many digits is.
use Rattle.std.proofs.Common.{◌≡◌, ℕ, ◌<◌, ◌≤◌, ◌^◌, ◌&&◌, Bool, true, false, cond, List, length, nat_le, Some, None, refl}
use Rattle.std.specs.Char.{is_ascii_digit}
use Rattle.std.specs.List.{list_all}
use Rattle.std.specs.Str.Parse.{digits_value}
use Rattle.std.proofs.lemmas.Bool.{and_parts}
use Rattle.std.proofs.lemmas.Str.Parse.{digits_value_short}
use Rattle.tox_time.proofs.Numbers.{ascii_digits}
use Rattle.tox_time.specs.Text.{decimal_value, is_decimal, is_sized}

below : (text : List ℕ) (k n : ℕ) (test : Bool) → (test ≡ true → list_all is_ascii_digit text ≡ true)
    → cond test (Some (digits_value 10 text)) None ≡ Some n → length text ≤ k → n < 10 ^ k
below text k n true all is short =
    let same : digits_value 10 text ≡ n = cc in
    rw (← same) (digits_value_short ascii_digits text k (all refl) short)
below text k n false all is short = absurd (cc)

-- a number of at most k digits is below 10 ^ k
pub decimal_value-lt : (digits greatest k n : ℕ) (text : List ℕ) → decimal_value digits greatest text ≡ Some n → length text ≤ k → n < 10 ^ k
decimal_value-lt digits greatest k n text is short =
    below text k n (is_decimal digits text && nat_le (digits_value 10 text) greatest)
    (λ passes.
    let decimal = and_parts (is_decimal digits text) (nat_le (digits_value 10 text) greatest) passes in
    (and_parts (is_sized digits text) (list_all is_ascii_digit text) decimal.0).1)
    is short
