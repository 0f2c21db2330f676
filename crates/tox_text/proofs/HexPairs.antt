-- Which digits are pairs.
use Rattle.std.proofs.Common.{◌≡◌, ℕ, ◌+◌, ◌*◌, ◌%◌, ◌<◌, Bool, true, false, List, length, slice_index, Some, Result, Ok, Err, ap, sym, ◌∙◌, refl, arith}
use Rattle.std.specs.Prelude.{IsOk, is_ok}
use Rattle.std.specs.List.{list_all}
use Rattle.std.proofs.lemmas.List.Sums.{AllPass-from_list_all, list_all-from_AllPass}
use Rattle.hex.specs.Hex.{decode_of, hex_digit_value, is_hex_digit, pair_value}
use Rattle.hex.specs.declared.error.FromHexError.{FromHexError}
use Rattle.hex.proofs.HexLemmas.{decode_of-digits, decode_of-ok}

-- an even number of hexadecimal digits is pairs, and nothing else is
pub pairs-even : (digits : List ℕ) → length digits % 2 ≡ 0 → list_all is_hex_digit digits ≡ is_ok (decode_of digits)
pairs-even digits even = by (list_all is_hex_digit digits) refl (decode_of digits) refl
  where
    by : (all : Bool) → list_all is_hex_digit digits ≡ all → (read : Result (List ℕ) FromHexError) → decode_of digits ≡ read
        → list_all is_hex_digit digits ≡ is_ok (decode_of digits)
    by true all read is = let found = decode_of-digits digits even (AllPass-from_list_all is_hex_digit digits all) in all ∙ sym (ap is_ok found.1)
    by false all (Ok bytes) is =
        let ok = decode_of-ok digits bytes is in
        let wrong : list_all is_hex_digit digits ≡ true = list_all-from_AllPass is_hex_digit digits ok.1 in
        absurd (let both : true ≡ false = sym wrong ∙ all in cc)
    by false all (Err fault) is = all ∙ sym (ap is_ok is)

-- what decodes is digits
pub digit_there : (digits : List ℕ) (k : ℕ) → IsOk (decode_of digits) → k < length digits → is_hex_digit (slice_index digits k) ≡ true
digit_there digits k pairs below = by (decode_of digits) refl
  where
    by : (read : Result (List ℕ) FromHexError) → decode_of digits ≡ read → is_hex_digit (slice_index digits k) ≡ true
    by (Ok bytes) is = (decode_of-ok digits bytes is).1 k 0 below
    by (Err fault) is = absurd (let bad : is_ok (decode_of digits) ≡ false = ap is_ok is in let both : true ≡ false = sym pairs ∙ bad in cc)

-- two digits as a byte
pub pair_read : (high low i h l : ℕ) → hex_digit_value high ≡ Some h → hex_digit_value low ≡ Some l → pair_value high low i ≡ Ok (16 * h + l)
pair_read high low i h l first second =
    let order : h * 16 + l ≡ 16 * h + l = omega arith in
    rw (first, second) (ap Ok order)
