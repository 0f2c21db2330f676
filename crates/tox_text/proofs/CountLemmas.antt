-- What a line adds to what is counted of the lines before it.
use Rattle.std.proofs.Common.{◌≡◌, ℕ, ◌+◌, ◌<◌, ◌≤◌, ◌^◌, ◌==◌, Bool, true, false, List, [], ◌∷◌, length, nat_lt, Option, Some, None, Result, Ok, Err, ◌/◌}
use Rattle.std.proofs.Common.{if◌then◌else◌, refl, ap, sym, ◌∙◌, arith, rules, tests}
use Rattle.std.specs.Prelude.{is_ok, option_map}
use Rattle.std.specs.Result.{result_ok}
use Rattle.hex.specs.Hex.{decode_of}
use Rattle.hex.specs.declared.error.FromHexError.{FromHexError}
use Rattle.hex.proofs.HexLemmas.{decode_of-ok}
use Rattle.tox_time.specs.declared.streams.arrivals.ArrivalFault.{ArrivalFault}
use Rattle.tox_time.specs.declared.streams.arrivals.ArrivalFault.TheVariants.{TimeBack, EmptyPiece, TooManyBytes, AfterEnd}
use Rattle.tox_time.specs.declared.streams.item.Item.{Item}
use Rattle.tox_time.specs.declared.streams.item.Item.TheVariants.{Closed}
use Rattle.tox_time.specs.Time.{IsInstant}
use Rattle.tox_time.specs.streams.Stream.{arrived, latest, has_final}
use Rattle.tox_time.specs.streams.Arrivals.{end_fault, eof_fault, next_chunk, piece_fault, push_fault}
use Rattle.tox_time.proofs.ArrivalsKept.{IsArrivalList-append}
use Rattle.tox_time.proofs.StreamLemmas.{arrived-append, has_final-append, latest_from-append}
use Rattle.tox_text.specs.declared.fault.DryFault.TheVariants.{Arrival}
use Rattle.tox_text.specs.arrivals.ArrivalsText.{Arrived, no_arrivals, arrived_or_fault, with_eof, after_line, with_data, after_read}
use Rattle.tox_text.specs.arrivals.Checked.{AreArrivals, AreShort}
use Rattle.tox_text.specs.arrivals.Counting.{Counts}
use Rattle.tox_text.specs.arrivals.Line.{Line, arrival, end, line_of}
use Rattle.tox_time.specs.declared.streams.position.StreamPosition.{StreamPosition}

-- a line that isn't empty says what is read of it
pub after_line-read : (n : ℕ) (before : Arrived) (line : List ℕ) (read : Option Line) → (length line == 0) ≡ false → line_of line ≡ read
    → after_line n before line ≡ after_read n before read
after_line-read n before line read filled is =
    ap (λ empty. if empty then Ok before else after_read n before (line_of line)) filled ∙ ap (after_read n before) is

unrefused : (a b c d : Bool) → (if a then Some TimeBack else (if b then Some EmptyPiece else
    (if c then Some TooManyBytes else (if d then Some AfterEnd else None)))) ≡ None
    → (a ≡ false) × (b ≡ false) × (c ≡ false) × (d ≡ false)
unrefused true b c d none = absurd (cc)
unrefused false true c d none = absurd (cc)
unrefused false false true d none = absurd (cc)
unrefused false false false true none = absurd (cc)
unrefused false false false false none = (refl, refl, refl, refl)

-- what an accepted piece is
pub accepted_piece : (bytes since len t : ℕ) (ended : Bool) → piece_fault bytes since ended len t ≡ None
    → (since ≤ t) × (0 < len) × (bytes + len ≤ 2 ^ 40) × (ended ≡ false)
accepted_piece bytes since len t ended none =
    let tests_are = unrefused (nat_lt t since) (len == 0) (nat_lt (2 ^ 40) (bytes + len)) ended none in
    let ordered : nat_lt t since ≡ false = tests_are.0 in
    let some : (len == 0) ≡ false = tests_are.1 in
    let few : nat_lt (2 ^ 40) (bytes + len) ≡ false = tests_are.2 in
    (search (rules, tests), search (rules, tests), search (rules, tests), tests_are.3)

unrefused_end : (a b : Bool) → (if a then Some TimeBack else (if b then Some AfterEnd else None)) ≡ None → (a ≡ false) × (b ≡ false)
unrefused_end true b none = absurd (cc)
unrefused_end false true none = absurd (cc)
unrefused_end false false none = (refl, refl)

pub accepted_end : (since t : ℕ) (ended : Bool) → end_fault since ended t ≡ None → (since ≤ t) × (ended ≡ false)
accepted_end since t ended none =
    let tests_are = unrefused_end (nat_lt t since) ended none in
    let ordered : nat_lt t since ≡ false = tests_are.0 in
    (search (rules, tests), tests_are.1)

-- a piece more
pub AreArrivals-piece : (before : Arrived) (t : ℕ) (bytes : List ℕ) → AreArrivals before → IsInstant t → push_fault before.items (length bytes) t ≡ None
    → AreArrivals (with_data before t bytes)
AreArrivals-piece before t bytes arrivals instant none =
    let fits = accepted_piece (arrived before.items) (latest before.items) (length bytes) t (has_final before.items) none in
    let chunk : Item = next_chunk before.items (length bytes) t in
    record {
      list = IsArrivalList-append before.items (chunk ∷ []) fits.3 arrivals.list (refl, omega (arith, fits.1), fits.0, instant, refl) (λ reset. reset);
      few = omega (arith, arrived-append before.items (chunk ∷ []), fits.2);
    }

-- the source's end
pub AreArrivals-end : (before : Arrived) (t : ℕ) → AreArrivals before → IsInstant t → eof_fault before.items t ≡ None → AreArrivals (with_eof before t)
AreArrivals-end before t arrivals instant none =
    let fits = accepted_end (latest before.items) t (has_final before.items) none in
    record {
      list = IsArrivalList-append before.items (Closed t ∷ []) fits.1 arrivals.list (fits.0, instant, refl) (λ reset. reset);
      few = omega (arith, arrived-append before.items (Closed t ∷ []), arrivals.few);
    }

counted_fault : (count : StreamPosition) (before : Arrived) (len t : ℕ) → Counts count before
    → piece_fault count.position count.latest count.ended len t ≡ push_fault before.items len t
counted_fault count before len t counts =
    ap (λ n. piece_fault n count.latest count.ended len t) counts.bytes
    ∙ ap (λ n. piece_fault (arrived before.items) n count.ended len t) counts.latest
    ∙ ap (λ b. piece_fault (arrived before.items) (latest before.items) b len t) counts.ended

counted_end : (count : StreamPosition) (before : Arrived) (t : ℕ) → Counts count before → end_fault count.latest count.ended t ≡ eof_fault before.items t
counted_end count before t counts =
    ap (λ n. end_fault n count.ended t) counts.latest ∙ ap (λ b. end_fault (latest before.items) b t) counts.ended

-- a data line is counted
pub data_counted : (n : ℕ) (old new : StreamPosition) (before : Arrived) (t : ℕ) (bytes line : List ℕ) → (length line == 0) ≡ false
    → line_of line ≡ Some (arrival t bytes) → IsInstant t
    → piece_fault old.position old.latest old.ended (length bytes) t ≡ None
    → (new.position ≡ old.position + length bytes) × (new.latest ≡ t) × (new.ended ≡ false) → Counts old before
    → (after : Arrived) × (after_line n before line ≡ Ok after) × Counts new after
data_counted n old new before t bytes line filled is instant none grown counts =
    let accepted : push_fault before.items (length bytes) t ≡ None = sym (counted_fault old before (length bytes) t counts) ∙ none in
    let fits = accepted_piece (arrived before.items) (latest before.items) (length bytes) t (has_final before.items) accepted in
    let chunk : Item = next_chunk before.items (length bytes) t in (
      with_data before t bytes,
      after_line-read n before line (Some (arrival t bytes)) filled is ∙ ap (λ fault. arrived_or_fault n fault (with_data before t bytes)) accepted,
      record {
        arrivals = AreArrivals-piece before t bytes counts.arrivals instant accepted;
        bytes = omega (arith, grown.0, counts.bytes, arrived-append before.items (chunk ∷ []));
        latest = grown.1 ∙ sym (latest_from-append 0 before.items (chunk ∷ []));
        ended = grown.2 ∙ sym (has_final-append before.items (chunk ∷ []) fits.3);
      },
    )

-- a last line is counted
pub end_counted : (n : ℕ) (old new : StreamPosition) (before : Arrived) (t : ℕ) (line : List ℕ) → (length line == 0) ≡ false → line_of line ≡ Some (end t)
    → IsInstant t
    → end_fault old.latest old.ended t ≡ None → (new.position ≡ old.position) × (new.latest ≡ t) × (new.ended ≡ true) → Counts old before
    → (after : Arrived) × (after_line n before line ≡ Ok after) × Counts new after
end_counted n old new before t line filled is instant none grown counts =
    let accepted : eof_fault before.items t ≡ None = sym (counted_end old before t counts) ∙ none in
    let fits = accepted_end (latest before.items) t (has_final before.items) accepted in (
      with_eof before t,
      after_line-read n before line (Some (end t)) filled is ∙ ap (λ fault. arrived_or_fault n fault (with_eof before t)) accepted,
      record {
        arrivals = AreArrivals-end before t counts.arrivals instant accepted;
        bytes = omega (arith, grown.0, counts.bytes, arrived-append before.items (Closed t ∷ []));
        latest = grown.1 ∙ sym (latest_from-append 0 before.items (Closed t ∷ []));
        ended = grown.2 ∙ sym (has_final-append before.items (Closed t ∷ []) fits.1);
      },
    )

-- and a refused one is reported
pub data_refused : (n : ℕ) (old : StreamPosition) (before : Arrived) (t : ℕ) (bytes line : List ℕ) (fault : ArrivalFault) → (length line == 0) ≡ false
    → line_of line ≡ Some (arrival t bytes)
    → piece_fault old.position old.latest old.ended (length bytes) t ≡ Some fault → Counts old before → after_line n before line ≡ Err (Arrival fault n)
data_refused n old before t bytes line fault filled is refused counts =
    after_line-read n before line (Some (arrival t bytes)) filled is
    ∙ ap (λ f. arrived_or_fault n f (with_data before t bytes)) (sym (counted_fault old before (length bytes) t counts) ∙ refused)

pub end_refused : (n : ℕ) (old : StreamPosition) (before : Arrived) (t : ℕ) (line : List ℕ) (fault : ArrivalFault) → (length line == 0) ≡ false
    → line_of line ≡ Some (end t)
    → end_fault old.latest old.ended t ≡ Some fault → Counts old before → after_line n before line ≡ Err (Arrival fault n)
end_refused n old before t line fault filled is refused counts =
    after_line-read n before line (Some (end t)) filled is
    ∙ ap (λ f. arrived_or_fault n f (with_eof before t)) (sym (counted_end old before t counts) ∙ refused)

-- pairs of digits say bytes
pub pairs_read : (t : ℕ) (digits : List ℕ) → is_ok (decode_of digits) ≡ true
    → (bytes : List ℕ) × (option_map (arrival t) (result_ok (decode_of digits)) ≡ Some (arrival t bytes)) × (length digits / 2 ≡ length bytes)
pairs_read t digits pairs = by (decode_of digits) refl
  where
    by : (read : Result (List ℕ) FromHexError) → decode_of digits ≡ read
        → (bytes : List ℕ) × (option_map (arrival t) (result_ok (decode_of digits)) ≡ Some (arrival t bytes)) × (length digits / 2 ≡ length bytes)
    by (Ok bytes) is = let ok = decode_of-ok digits bytes is in (bytes, ap (λ r. option_map (arrival t) (result_ok r)) is, omega (arith, ok.2))
    by (Err fault) is = absurd (let wrong : is_ok (decode_of digits) ≡ false = ap is_ok is in let both : true ≡ false = sym pairs ∙ wrong in cc)

-- and other digits say nothing
pub unpaired_read : (t : ℕ) (digits : List ℕ) → is_ok (decode_of digits) ≡ false → option_map (arrival t) (result_ok (decode_of digits)) ≡ None
unpaired_read t digits unpaired = by (decode_of digits) refl
  where
    by : (read : Result (List ℕ) FromHexError) → decode_of digits ≡ read → option_map (arrival t) (result_ok (decode_of digits)) ≡ None
    by (Ok bytes) is = absurd (let wrong : is_ok (decode_of digits) ≡ true = ap is_ok is in let both : true ≡ false = sym wrong ∙ unpaired in cc)
    by (Err fault) is = ap (λ r. option_map (arrival t) (result_ok r)) is

-- nothing was counted yet
pub Counts-first : (count : StreamPosition) → count.position ≡ 0 → count.latest ≡ 0 → count.ended ≡ false → Counts count no_arrivals
Counts-first count bytes latest ended = record {
  arrivals = record { list = (refl, λ reset. reset); few = omega arith };
  bytes = bytes;
  latest = latest;
  ended = ended;
}

-- lines that are short are so by a greater length
pub AreShort-longer : (old new : ℕ) (lines : List (List ℕ)) → old ≤ new → AreShort old lines → AreShort new lines
AreShort-longer old new [] grown short = tt
AreShort-longer old new (line ∷ lines) grown short = (omega (arith, short.0, grown), AreShort-longer old new lines grown short.1)
