-- The runs of one piece.
use Rattle.std.proofs.Common.{◌≡◌, ◌≢◌, ℕ, ◌+◌, ◌-◌, ◌<◌, ◌==◌, ◌&&◌, Bool, true, false, List, [], ◌∷◌, ◌++◌, length, drop, slice_index, replicate, refl, ap}
use Rattle.std.proofs.Common.{sym, ◌∙◌, arith, rules, tests, length-take, length-drop}
use Rattle.std.proofs.lemmas.List.{get_or-drop, get_or-take, length-replicate}
use Rattle.tox_time.specs.declared.streams.span.Span.{Span}
use Rattle.tox_time.specs.declared.streams.slice.Slice.{Slice}
use Rattle.tox_time.specs.streams.Stream.{span_len}
use Rattle.tox_lend.specs.Run.{LiesIn, Run, bytes_at}
use Rattle.tox_text.specs.arrivals.ArrivalsText.{Arrived}
use Rattle.tox_text.specs.ResultText.{arrival_of, bytes_line, lines_text}
use Rattle.tox_text.proofs.Runs.{StandsAt, StartAnew, delivered_from, delivered_from-append, delivered_from-run, line_from, lines_text-run, run_from}

length-bytes_at : (piece : Run) (span : Span) → LiesIn span piece → length (bytes_at piece span) ≡ span_len span
length-bytes_at piece span lies = omega (arith, lies.from_start, lies.in_order, lies.to_stop, length-take {A = ℕ}, length-drop {A = ℕ})

-- the bytes at a span of a piece stand there
pub StandsAt-within : (arrived : Arrived) (piece : Run) (span : Span) → StandsAt arrived piece.start piece.start piece.bytes → LiesIn span piece
    → StandsAt arrived piece.start span.start (bytes_at piece span)
StandsAt-within arrived piece span stands lies =
    let first = span.start - piece.start in
    let len = length-bytes_at piece span lies in
    let place : (n : ℕ) → span.start + n ≡ piece.start + (first + n) = λ n. omega (arith, lies.from_start) in
    record {
      of_arrival = λ n within. ap (arrival_of arrived.items) (place n) ∙ stands.of_arrival (first + n)
          (omega (arith, len, lies.from_start, lies.in_order, lies.to_stop));
      at_place = λ n within.
          ap (slice_index arrived.bytes) (place n)
          ∙ stands.at_place (first + n) (omega (arith, len, lies.from_start, lies.in_order, lies.to_stop))
          ∙ sym (get_or-take ((span.stop - piece.start) - first) (drop first piece.bytes) n 0 (omega (arith, len, lies.from_start, lies.in_order, lies.to_stop))
          ∙ get_or-drop first piece.bytes n 0);
    }

filled_line : (t start : ℕ) (bytes : List ℕ) → 0 < length bytes → line_from t start bytes ≡ bytes_line t start bytes
filled_line t start [] some = absurd (omega arith)
filled_line t start (byte ∷ bytes) some = refl

-- the line of a slice comes first, where what comes behind it starts anew
pub lines_text-slice : (arrived : Arrived) (piece : Run) (slice : Slice) (later : List ℕ) → StandsAt arrived piece.start piece.start piece.bytes
    → LiesIn slice.span piece → slice.span.start < slice.span.stop
    → StartAnew piece.start slice.instant (delivered_from arrived slice.span.stop later)
    → lines_text (delivered_from arrived slice.span.start (replicate (span_len slice.span) slice.instant ++ later))
    ≡ bytes_line slice.instant slice.span.start (bytes_at piece slice.span) ++ lines_text (delivered_from arrived slice.span.stop later)
lines_text-slice arrived piece slice later stands lies some anew =
    let bytes = bytes_at piece slice.span in
    let start = slice.span.start in
    let t = slice.instant in
    let len : length bytes ≡ span_len slice.span = length-bytes_at piece slice.span lies in
    let counted : start + length (replicate (span_len slice.span) t) ≡ slice.span.stop = omega (arith, length-replicate (span_len slice.span) t, some) in
    ap lines_text (
    delivered_from-append arrived start (replicate (span_len slice.span) t) later
    ∙ ap (λ n. delivered_from arrived start (replicate n t) ++ delivered_from arrived (start + length (replicate (span_len slice.span) t)) later) (sym len)
    ∙ ap (λ run. run ++ delivered_from arrived (start + length (replicate (span_len slice.span) t)) later)
    (delivered_from-run arrived piece.start t start bytes (StandsAt-within arrived piece slice.span stands lies))
    ∙ ap (λ n. run_from piece.start t start bytes ++ delivered_from arrived n later) counted
    )
    ∙ lines_text-run piece.start t start bytes (delivered_from arrived slice.span.stop later) anew
    ∙ ap (λ line. line ++ lines_text (delivered_from arrived slice.span.stop later)) (filled_line t start bytes (omega (arith, len, some)))

apart_arrival : (a b : ℕ) (same : Bool) → a ≢ b → (a == b && same) ≡ false
apart_arrival a b same other = let unequal : (a == b) ≡ false = search (rules, tests) in ap (λ test. test && same) unequal

and_false : (a : Bool) → (a && false) ≡ false
and_false true = refl
and_false false = refl

apart_instant : (a : Bool) (t u : ℕ) → u ≢ t → (a && t == u) ≡ false
apart_instant a t u other = let unequal : (t == u) ≡ false = search (rules, tests) in ap (λ test. a && test) unequal ∙ and_false a

-- what stands behind the piece starts anew
pub StartAnew-behind : (arrived : Arrived) (arrival t position : ℕ) (later : List ℕ) → arrival_of arrived.items position ≢ arrival
    → StartAnew arrival t (delivered_from arrived position later)
StartAnew-behind arrived arrival t position [] other = tt
StartAnew-behind arrived arrival t position (u ∷ later) other = apart_arrival arrival (arrival_of arrived.items position) (t == u) (λ same. other (sym same))

-- and so does what leaves at another instant
pub StartAnew-instant : (arrived : Arrived) (arrival t position u : ℕ) (later : List ℕ) → u ≢ t
    → StartAnew arrival t (delivered_from arrived position (u ∷ later))
StartAnew-instant arrived arrival t position u later other = apart_instant (arrival == arrival_of arrived.items position) t u other
