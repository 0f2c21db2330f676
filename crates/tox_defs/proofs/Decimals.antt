-- A printed number reads back, and has no comma.
use Rattle.std.proofs.Common.{◌≡◌, ℕ, ◌^◌, ◌<◌, ◌==◌, true, not, List, [], ◌∷◌, Some, refl, arith}
use Rattle.std.specs.Char.{is_ascii_digit}
use Rattle.std.specs.Fmt.{decimal}
use Rattle.std.specs.List.{list_all}
use Rattle.std.proofs.lemmas.Bool.{and_parts}
use Rattle.std.proofs.lemmas.Bool.Decides.{nat_tests}
use Rattle.std.proofs.lemmas.Fmt.{decimal_nonempty, digits_decimal, digits_value-decimal, length-decimal-le}
use Rattle.std.proofs.lemmas.Grind.{common_steps}
use Rattle.tox_time.proofs.Numbers.{ascii_digits}
use Rattle.tox_defs.proofs.Cuts.{lacks}
use Rattle.tox_defs.specs.short.Pairs.{pair_number}

digit_no_comma : (byte : ℕ) → is_ascii_digit byte ≡ true → not (byte == 44) ≡ true
digit_no_comma byte digit = grind (arith, nat_tests)

digits_no_comma : (text : List ℕ) → list_all is_ascii_digit text ≡ true → lacks (λ byte. byte == 44) text ≡ true
digits_no_comma [] digits = refl
digits_no_comma (byte ∷ text) digits =
    let parts = and_parts (is_ascii_digit byte) (list_all is_ascii_digit text) digits in
    rw (digit_no_comma byte parts.0) (digits_no_comma text parts.1)

pair_number-decimal : (n : ℕ) → n < 10 ^ 18 → pair_number (decimal n) ≡ Some n
pair_number-decimal n small =
    let wide : n < 2 ^ 64 = omega arith in
    let some = decimal_nonempty n wide in
    let short = length-decimal-le 18 n (omega arith) small wide in
    let digits = digits_decimal ascii_digits n wide in
    let value = digits_value-decimal ascii_digits n wide in
    grind (arith, common_steps)

decimal_no_comma : (n : ℕ) → n < 10 ^ 18 → lacks (λ byte. byte == 44) (decimal n) ≡ true
decimal_no_comma n small = digits_no_comma (decimal n) (digits_decimal ascii_digits n (omega arith))

-- a number up to 18 digits is read as itself, and may stand between commas
pub read_decimal : (n : ℕ) → n < 10 ^ 18
    → (pair_number (decimal n) ≡ Some n) × (lacks (λ byte. byte == 44) (decimal n) ≡ true)
read_decimal n small = (pair_number-decimal n small, decimal_no_comma n small)
