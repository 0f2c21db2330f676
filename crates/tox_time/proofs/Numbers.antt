-- What `parse` reads from decimal digits is their number.
use Rattle.std.proofs.Common.{◌≡◌, ℕ, ◌^◌, ◌<◌, true, List, length, Result, Err, None, arith, rules}
use Rattle.std.specs.Char.{is_ascii_digit}
use Rattle.std.specs.List.{list_all}
use Rattle.std.specs.Str.Parse.{digits_value, ParsesUnsigned}
use Rattle.std.proofs.lemmas.Grind.{common_steps}
use Rattle.std.proofs.lemmas.Result.{OkIff-at_err}
use Rattle.std.proofs.lemmas.Str.Parse.{IsNumeralModel, numerals_by_value, parse_digits}
use Rattle.tox_time.specs.Text.{decimal_value}

pub ascii_digits : IsNumeralModel (λ text. list_all is_ascii_digit text ≡ true) (digits_value 10)
ascii_digits = numerals_by_value _ (search rules)

-- where digits aren't read as a number of 64 bits, they write none of that size
pub decimal_unread : {E : Type 0} (digits greatest : ℕ) (text : List ℕ) (read : Result ℕ E) (error : E) → read ≡ Err error
    → list_all is_ascii_digit text ≡ true → greatest < 2 ^ 64 → ParsesUnsigned 64 10 text read
    → None ≡ decimal_value digits greatest text
decimal_unread digits greatest text read error unread all fits parsed =
    let none = OkIff-at_err read ((0 < length text) × (digits_value 10 text < 2 ^ 64)) (digits_value 10 text) error
    (parse_digits ascii_digits 64 text read parsed all) unread in
    grind (arith, common_steps, none)
