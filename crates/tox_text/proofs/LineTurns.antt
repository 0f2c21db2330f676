-- A text without faults, line by line: what each line adds to what arrived.
use Rattle.std.proofs.Common.{◌≡◌, ℕ, ◌/◌, ◌<◌, ◌==◌, Bool, true, false, List, [], ◌∷◌, ◌++◌, length, Option, Some, None, option_map, Result, Ok, Err}
use Rattle.std.proofs.Common.{if◌then◌else◌, refl, ap, sym, ◌∙◌, arith, rules, tests}
use Rattle.std.specs.Prelude.{IsOk, is_ok}
use Rattle.std.specs.Result.{result_ok}
use Rattle.hex.specs.Hex.{decode_of}
use Rattle.hex.specs.declared.error.FromHexError.{FromHexError}
use Rattle.hex.proofs.HexLemmas.{decode_of-ok}
use Rattle.tox_time.specs.declared.streams.arrivals.ArrivalFault.{ArrivalFault}
use Rattle.tox_time.specs.streams.Arrivals.{eof_fault, next_chunk, push_fault}
use Rattle.tox_text.specs.arrivals.ArrivalsText.{Arrived, arrived_or_fault, with_eof, after_line, with_data, after_read}
use Rattle.tox_text.specs.arrivals.Line.{Line, arrival, end, line_of}
use Rattle.tox_text.proofs.CountLemmas.{after_line-read}

filled : (line : List ℕ) (said : Line) → line_of line ≡ Some said → (length line == 0) ≡ false
filled [] said is = absurd (cc)
filled (x ∷ xs) said is = search (rules, tests)

taken : (n : ℕ) (fault : Option ArrivalFault) (a b : Arrived) → arrived_or_fault n fault a ≡ Ok b → (fault ≡ None) × (b ≡ a)
taken n (Some fault) a b is = absurd (cc)
taken n None a b is = (refl, cc)

-- a data line of such a text was accepted
pub data_taken : (n : ℕ) (before next : Arrived) (t : ℕ) (bytes line : List ℕ) → line_of line ≡ Some (arrival t bytes) → after_line n before line ≡ Ok next
    → (push_fault before.items (length bytes) t ≡ None) × (next ≡ with_data before t bytes)
data_taken n before next t bytes line is took =
    taken n (push_fault before.items (length bytes) t) (with_data before t bytes) next
    (sym (after_line-read n before line (Some (arrival t bytes)) (filled line (arrival t bytes) is) is) ∙ took)

-- and so was the end
pub end_taken : (n : ℕ) (before next : Arrived) (t : ℕ) (line : List ℕ) → line_of line ≡ Some (end t) → after_line n before line ≡ Ok next
    → (eof_fault before.items t ≡ None) × (next ≡ with_eof before t)
end_taken n before next t line is took =
    taken n (eof_fault before.items t) (with_eof before t) next (sym (after_line-read n before line (Some (end t)) (filled line (end t) is) is) ∙ took)

-- a line that is none says nothing
pub none_taken : (n : ℕ) (before next : Arrived) (line : List ℕ) → line_of line ≡ None → after_line n before line ≡ Ok next → next ≡ before
none_taken n before next line is took = by (length line == 0) refl
  where
    by : (empty : Bool) → (length line == 0) ≡ empty → next ≡ before
    by true empty = let same : after_line n before line ≡ Ok before = ap (λ b. if b then Ok before else after_read n before (line_of line)) empty in cc
    by false empty = let bad = sym (after_line-read n before line None empty is) ∙ took in absurd (cc)

-- the digits of such a line are pairs
pub pairs_taken : (n : ℕ) (before next : Arrived) (t : ℕ) (digits line : List ℕ) → line_of line ≡ option_map (arrival t) (result_ok (decode_of digits))
    → 0 < length line
    → after_line n before line ≡ Ok next → IsOk (decode_of digits)
pairs_taken n before next t digits line says some took = by (decode_of digits) refl
  where
    by : (read : Result (List ℕ) FromHexError) → decode_of digits ≡ read → IsOk (decode_of digits)
    by (Ok bytes) is = rw is refl
    by (Err fault) is =
        let none : line_of line ≡ None = says ∙ ap (λ r. option_map (arrival t) (result_ok r)) is in
        let filled : (length line == 0) ≡ false = search (rules, tests) in
        let bad = sym (after_line-read n before line None filled none) ∙ took in
        absurd (cc)

-- and half as many as they are arrived
pub chunk_taken : (n : ℕ) (before next : Arrived) (t : ℕ) (digits line : List ℕ) → line_of line ≡ option_map (arrival t) (result_ok (decode_of digits))
    → 0 < length line
    → after_line n before line ≡ Ok next → next.items ≡ before.items ++ next_chunk before.items (length digits / 2) t ∷ []
chunk_taken n before next t digits line says some took = by (decode_of digits) refl
  where
    by : (read : Result (List ℕ) FromHexError) → decode_of digits ≡ read → next.items ≡ before.items ++ next_chunk before.items (length digits / 2) t ∷ []
    by (Ok bytes) is =
        let said : line_of line ≡ Some (arrival t bytes) = says ∙ ap (λ r. option_map (arrival t) (result_ok r)) is in
        let half : length bytes ≡ length digits / 2 = omega (arith, (decode_of-ok digits bytes is).2) in
        ap (λ a. a.items) (data_taken n before next t bytes line said took).1 ∙ ap (λ len. before.items ++ next_chunk before.items len t ∷ []) half
    by (Err fault) is = absurd (let pairs = pairs_taken n before next t digits line says some took in let both = sym (ap is_ok is) ∙ pairs in cc)
