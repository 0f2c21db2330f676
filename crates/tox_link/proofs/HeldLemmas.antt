-- Bytes that are written from the pieces of a window, one part after the other.
use Rattle.std.proofs.Common.{◌≡◌, ℕ, ◌+◌, ◌-◌, ◌<◌, ◌≤◌, cond, inl, inr, Bool, true, false, List, [], ◌∷◌, ◌++◌, length, length-append, length-drop}
use Rattle.std.proofs.Common.{length-take-le, take, drop, Option, Some}
use Rattle.std.proofs.Common.{None, refl, ap, ◌∙◌, sym, subst, append_assoc, arith}
use Rattle.std.specs.Prelude.{find, nat_lt, ◌&&◌}
use Rattle.std.specs.Io.KnownBytes.{append_known}
use Rattle.std.proofs.lemmas.Bool.{cases_lt, le-leb, lt-ltb, le-ltb}
use Rattle.std.proofs.lemmas.List.{drop-take, drop-drop, take-take}
use Rattle.std.proofs.Math.Seq.{take-add}
use Rattle.std.proofs.lemmas.Option.{same_Some}
use Rattle.tox_time.specs.declared.streams.span.Span.{Span}
use Rattle.tox_lend.specs.Run.{Run, stop_of, bytes_at}
use Rattle.tox_lend.specs.Window.{Pieces, JoinUpTo, start_of, has_position}
use Rattle.tox_link.specs.steps.Held.{AreFrom, AreOf, HoldsSpan}

append-append : (known : Option (List ℕ)) (xs ys : List ℕ) → append_known (append_known known xs) ys ≡ append_known known (xs ++ ys)
append-append None xs ys = refl
append-append (Some zs) xs ys = ap Some (append_assoc zs xs ys)

-- what was written after the next bytes of a list
pub written_more : (base old new : Option (List ℕ)) (bytes : List ℕ) (start count : ℕ) → old ≡ append_known base (take start bytes)
    → new ≡ append_known old (take count (drop start bytes)) → new ≡ append_known base (take (start + count) bytes)
written_more base old new bytes start count before after =
    after ∙ ap (λ known. append_known known (take count (drop start bytes))) before ∙ append-append base (take start bytes) (take count (drop start bytes))
    ∙ ap (append_known base) (sym (take-add start count bytes))

-- a part of a piece of the heard bytes
pub part-of : (heard bytes : List ℕ) (start first count : ℕ) → bytes ≡ take (length bytes) (drop start heard) → start ≤ first
    → first + count ≤ start + length bytes → take count (drop (first - start) bytes) ≡ take count (drop first heard)
part-of heard bytes start first count is from within =
    let skip : ℕ = first - start in
    let left : ℕ = length bytes - (first - start) in
    let whole : length bytes ≡ (first - start) + (length bytes - (first - start)) = omega (arith, from, within) in
    let at : start + (first - start) ≡ first = omega (arith, from) in
    ap (λ bytes. take count (drop (first - start) bytes)) (is ∙ ap (λ n. take n (drop start heard)) whole)
    ∙ ap (take count) (drop-take (first - start) (length bytes - (first - start)) (drop start heard))
    ∙ take-take count (length bytes - (first - start)) (drop (first - start) (drop start heard)) (omega (arith, from, within))
    ∙ ap (take count) (drop-drop (first - start) start heard ∙ ap (λ n. drop n heard) at)

-- the piece at a position that a window holds
pub record IsAt (stop position : ℕ) (pieces : List Run) : Type 0 where
  pub piece : Run
  pub found : find (has_position position) pieces ≡ Some piece
  pub from_start : piece.start ≤ position
  pub before_stop : position < stop_of piece
  pub part : (heard : List ℕ) → AreOf heard pieces → piece.bytes ≡ take (length piece.bytes) (drop piece.start heard)

pub held-at : (stop position : ℕ) (pieces : List Run) → JoinUpTo stop pieces → start_of stop pieces ≤ position → position < stop → IsAt stop position pieces
held-at stop position [] joined from before = absurd (omega (arith, from, before))
held-at stop position (piece ∷ pieces) joined from before = elim (cases_lt position (stop_of piece)) [
  | inl inside ↦ record {
    piece = piece;
    found = ap (λ test. cond test (Some piece) (find (has_position position) pieces))
        (ap (λ b. b && nat_lt position (stop_of piece)) (le-leb piece.start position from) ∙ lt-ltb position (stop_of piece) inside);
    from_start = from;
    before_stop = inside;
    part = λ heard parts. parts.0;
  }
  | inr past ↦
      let later : IsAt stop position pieces = held-at stop position pieces joined.2 (omega (arith, joined.1, past)) before in
      record {
        piece = later.piece;
        found = ap (λ test. cond test (Some piece) (find (has_position position) pieces))
            (ap (λ b. b && nat_lt position (stop_of piece)) (le-leb piece.start position from) ∙ le-ltb position (stop_of piece) past) ∙ later.found;
        from_start = later.from_start;
        before_stop = later.before_stop;
        part = λ heard parts. later.part heard parts.1;
      }
]

-- the piece that a window has at a position
pub record Holds (position : ℕ) (pieces : List Run) (piece : Run) : Type 0 where
  pub from_start : piece.start ≤ position
  pub before_stop : position < stop_of piece
  pub part : (heard : List ℕ) → AreOf heard pieces → piece.bytes ≡ take (length piece.bytes) (drop piece.start heard)

pub found-holds : (window : Pieces) (span : Span) (piece : Run) → HoldsSpan window span → span.start < span.stop
    → Some piece ≡ find (has_position span.start) window.held → Holds span.start window.held piece
found-holds window span piece held some found =
    let at : IsAt window.stop span.start window.held = held-at window.stop span.start window.held held.joined held.from_start
    (omega (arith, held.to_stop, some)) in
    subst (Holds span.start window.held) (same_Some at.piece piece (sym at.found ∙ sym found))
    (record { from_start = at.from_start; before_stop = at.before_stop; part = at.part })

-- a window that holds a span finds a piece
pub never-none : (window : Pieces) (span : Span) → HoldsSpan window span → span.start < span.stop → None ≡ find (has_position span.start) window.held → ⊥
never-none window span held some none =
    let at : IsAt window.stop span.start window.held = held-at window.stop span.start window.held held.joined held.from_start
    (omega (arith, held.to_stop, some)) in
    let both : None ≡ Some at.piece = none ∙ at.found in
    absurd (cc)

-- the first bytes of a piece from a position on
pub record IsFront (start stop : ℕ) (pieces : List Run) (bytes : List ℕ) : Type 0 where
  pub some : 0 < length bytes
  pub few : start + length bytes ≤ stop
  pub part : (heard : List ℕ) → AreOf heard pieces → bytes ≡ take (length bytes) (drop start heard)

pub front-part : (piece : Run) (pieces : List Run) (start stop count : ℕ) (bytes : List ℕ) → Holds start pieces piece → 0 < count → start + count ≤ stop
    → start + count ≤ stop_of piece
    → bytes ≡ bytes_at piece (record { start = start; stop = start + count }) → IsFront start stop pieces bytes
front-part piece pieces start stop count bytes holds some few within is =
    let width : (start + count - piece.start) - (start - piece.start) ≡ count = omega (arith, holds.from_start) in
    let exact : bytes ≡ take count (drop (start - piece.start) piece.bytes) = is ∙ ap (λ n. take n (drop (start - piece.start) piece.bytes)) width in
    let left : length (drop (start - piece.start) piece.bytes) ≡ length piece.bytes - (start - piece.start) = length-drop (start - piece.start) piece.bytes in
    let long : length bytes ≡ count = ap length exact ∙ length-take-le count (drop (start - piece.start) piece.bytes)
    (omega (arith, left, within, holds.from_start)) in
    record {
      some = omega (arith, long, some);
      few = omega (arith, long, few);
      part = λ heard parts. exact ∙ part-of heard piece.bytes piece.start start count (holds.part heard parts) holds.from_start (omega (arith, within))
          ∙ ap (λ n. take n (drop start heard)) (sym long);
    }

-- a piece that a window finds has its bytes
pub find-part : (position : ℕ) (pieces : List Run) (piece : Run) → find (has_position position) pieces ≡ Some piece → (heard : List ℕ) → AreOf heard pieces
    → piece.bytes ≡ take (length piece.bytes) (drop piece.start heard)
find-part position [] piece found heard parts = absurd (cc)
find-part position (first ∷ pieces) piece found heard parts = by (has_position position first) refl
    (λ later. find-part position pieces piece later heard parts.1)
  where
    by : (test : Bool) → has_position position first ≡ test
        → (find (has_position position) pieces ≡ Some piece → piece.bytes ≡ take (length piece.bytes) (drop piece.start heard))
        → piece.bytes ≡ take (length piece.bytes) (drop piece.start heard)
    by true is later = subst (λ run. run.bytes ≡ take (length run.bytes) (drop run.start heard))
        (same_Some first piece (sym (ap (λ test. cond test (Some first) (find (has_position position) pieces)) is) ∙ found)) parts.0
    by false is later = later (sym (ap (λ test. cond test (Some first) (find (has_position position) pieces)) is) ∙ found)

-- no bytes
pub from-none : (pieces : List Run) (start stop : ℕ) → start ≤ stop → AreFrom pieces start stop []
from-none pieces start stop few = record { few = omega (arith, few); part = λ heard parts. refl }

-- bytes behind others
pub from-append : (pieces : List Run) (start stop : ℕ) (bytes more : List ℕ) → AreFrom pieces start stop bytes
    → AreFrom pieces (start + length bytes) stop more → AreFrom pieces start stop (bytes ++ more)
from-append pieces start stop bytes more front back =
    let long : length (bytes ++ more) ≡ length bytes + length more = length-append bytes more in
    record {
      few = omega (arith, long, back.few);
      part = λ heard parts.
          ap (λ bytes. bytes ++ more) (front.part heard parts)
          ∙ ap (λ more. take (length bytes) (drop start heard) ++ more)
          (back.part heard parts ∙ ap (take (length more)) (sym (drop-drop (length bytes) start heard)))
          ∙ sym (take-add (length bytes) (length more) (drop start heard))
          ∙ ap (λ n. take n (drop start heard)) (sym long);
    }
