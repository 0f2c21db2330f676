-- How many pieces of a log wait, beside those that a core keeps.
use Rattle.std.proofs.Common.{◌≡◌, ℕ, ◌+◌, ◌<◌, ◌≤◌, Bool, true, false, List, [], ◌∷◌, ◌++◌, length, map, refl, ap, sym, ◌∙◌, subst, append_assoc, append-nil}
use Rattle.std.proofs.Common.{arith}
use Rattle.std.specs.Prelude.{nat_lt, if◌then◌else◌}
use Rattle.std.specs.List.{sum}
use Rattle.std.proofs.lemmas.Bool.{le-ltb, lt-ltb}
use Rattle.std.proofs.lemmas.List.{map-append, length-map}
use Rattle.std.proofs.lemmas.List.Sums.{sum_by-append}
use Rattle.tox_time.specs.declared.streams.span.Span.{Span}
use Rattle.tox_time.specs.streams.Stream.{span_len}
use Rattle.tox_time.specs.streams.Table.{slices_table}
use Rattle.tox_plan.specs.RunnerView.{RunnerView}
use Rattle.tox_link.specs.declared.link_core.waiting.WaitingPiece.{WaitingPiece}
use Rattle.tox_link.specs.declared.notes.LinkEvent.{LinkEvent}
use Rattle.tox_link.specs.declared.notes.LinkEvent.TheVariants.{Piece, SourceEnd, Wrote}
use Rattle.tox_link.specs.link_core.Core.{CoreView, GivesUp, core_position, kept_count, kept_lens, kept_start, next_start}
use Rattle.tox_link.specs.log.Log.{ends_behind, heard_lens, said, waiting_pieces, IsGapless, IsShallowBehind}
use Rattle.tox_link.specs.log.Carried.{KeepsLast}
use Rattle.tox_link.proofs.Logs.{gapless-bytes}

pub heard_lens-append : (log more : List LinkEvent) → heard_lens (log ++ more) ≡ heard_lens log ++ heard_lens more
heard_lens-append [] more = refl
heard_lens-append (Piece len instant ∷ log) more = ap (λ lens. len ∷ lens) (heard_lens-append log more)
heard_lens-append (SourceEnd instant ∷ log) more = heard_lens-append log more
heard_lens-append (Wrote slice now ∷ log) more = heard_lens-append log more

-- no more pieces end behind a position than there are
ends_behind-most : (position start : ℕ) (lens : List ℕ) → ends_behind position start lens ≤ length lens
ends_behind-most position start [] = omega arith
ends_behind-most position start (len ∷ lens) = by (nat_lt position (start + len)) (ends_behind-most position (start + len) lens)
  where
    by : (behind : Bool) → ends_behind position (start + len) lens ≤ length lens
        → (if behind then 1 else 0) + ends_behind position (start + len) lens ≤ length (len ∷ lens)
    by true rest = omega (arith, rest)
    by false rest = omega (arith, rest)

-- none of the first ones does, if they end before it
ends_behind-few : (position start : ℕ) (given kept : List ℕ) → start + sum given ≤ position → ends_behind position start (given ++ kept) ≤ length kept
ends_behind-few position start [] kept within = ends_behind-most position start kept
ends_behind-few position start (len ∷ given) kept within =
    let all : sum (len ∷ given) ≡ sum (len ∷ []) + sum given = sum_by-append (λ x. x) (len ∷ []) given in
    let rest = ends_behind-few position (start + len) given kept (omega (arith, all, within)) in
    let none : nat_lt position (start + len) ≡ false = le-ltb position (start + len) (omega (arith, all, within)) in
    rw none (omega (arith, rest))

-- all of those do that start behind it
ends_behind-all : (position start : ℕ) (lens : List ℕ) → position < start → length lens ≤ ends_behind position start lens
ends_behind-all position start [] before = omega arith
ends_behind-all position start (len ∷ lens) before =
    let rest = ends_behind-all position (start + len) lens (omega (arith, before)) in
    let one : nat_lt position (start + len) ≡ true = lt-ltb position (start + len) (omega (arith, before)) in
    rw one (omega (arith, rest))

-- and the one that holds it
ends_behind-from : (position start : ℕ) (given : List ℕ) (first : ℕ) (kept : List ℕ) → position < start + sum given + first
    → length (first ∷ kept) ≤ ends_behind position start (given ++ first ∷ kept)
ends_behind-from position start [] first kept before =
    let rest : (position < start + first) → length kept ≤ ends_behind position (start + first) kept =
    (λ before. ends_behind-all position (start + first) kept before) in
    let one : nat_lt position (start + first) ≡ true = lt-ltb position (start + first) (omega (arith, before)) in
    rw one (let all = rest (omega (arith, before)) in omega (arith, all))
ends_behind-from position start (len ∷ given) first kept before =
    let all : sum (len ∷ given) ≡ sum (len ∷ []) + sum given = sum_by-append (λ x. x) (len ∷ []) given in
    let rest = ends_behind-from position (start + len) given first kept (omega (arith, all, before)) in
    by (nat_lt position (start + len)) rest
  where
    by : (behind : Bool) → length (first ∷ kept) ≤ ends_behind position (start + len) (given ++ first ∷ kept)
        → length (first ∷ kept) ≤ (if behind then 1 else 0) + ends_behind position (start + len) (given ++ first ∷ kept)
    by true rest = omega (arith, rest)
    by false rest = omega (arith, rest)

-- as many pieces are kept as there are lengths
kept-lens : (core : CoreView) → length (kept_lens core) ≡ kept_count core
kept-lens core = by core.runner.idle
  where
    waits : length (map (λ (piece : WaitingPiece). piece.len) core.waiting) ≡ length core.waiting
    waits = length-map core.waiting (λ piece. piece.len)

    by : (idle : Bool) → length ((if idle then [] else span_len core.runner.piece.span ∷ []) ++ map (λ (piece : WaitingPiece). piece.len) core.waiting)
        ≡ length core.waiting + (if idle then 0 else 1)
    by true = omega (arith, waits)
    by false = omega (arith, waits)

-- no more wait than a core keeps
pub few-waiting : (core : CoreView) (log : List LinkEvent) → KeepsLast core log → IsGapless 0 (said log) (core_position core)
    → waiting_pieces log ≤ kept_count core
few-waiting core log keeps gapless =
    let said_to = gapless-bytes 0 (said log) (core_position core) gapless in
    let count = kept-lens core in
    let few = ends_behind-few (length (slices_table (said log))) 0 keeps.given_up (kept_lens core)
    (let start = keeps.start in let before = keeps.before in omega (arith, start, before, said_to)) in
    subst (λ lens. ends_behind (length (slices_table (said log))) 0 lens ≤ kept_count core) (sym keeps.lens) (omega (arith, few, count))

-- all of the kept ones do where the runner's piece ends behind it
kept-behind : (position : ℕ) (given : List ℕ) (idle : Bool) (piece : Span) (waiting : List WaitingPiece) → position < piece.stop
    → sum given ≡ (if idle then piece.stop else piece.start)
    → length ((if idle then [] else span_len piece ∷ []) ++ map (λ piece. piece.len) waiting)
    ≤ ends_behind position 0 (given ++ ((if idle then [] else span_len piece ∷ []) ++ map (λ piece. piece.len) waiting))
kept-behind position given true piece [] within start = omega arith
kept-behind position given true piece (first ∷ waiting) within start = ends_behind-from position 0 given first.len (map (λ piece. piece.len) waiting)
    (omega (arith, within, start))
kept-behind position given false piece waiting within start = ends_behind-from position 0 given (span_len piece) (map (λ piece. piece.len) waiting)
    (omega (arith, within, start))

-- nor fewer, where the runner's piece ends behind what was said
pub many-waiting : (core : CoreView) (log : List LinkEvent) (said_to : ℕ) → KeepsLast core log → IsGapless 0 (said log) said_to
    → said_to < core.runner.piece.span.stop → kept_count core ≤ waiting_pieces log
many-waiting core log said_to keeps gapless within =
    let said_is = gapless-bytes 0 (said log) said_to gapless in
    let count = kept-lens core in
    let many = kept-behind (length (slices_table (said log))) keeps.given_up core.runner.idle core.runner.piece.span core.waiting
    (omega (arith, said_is, within)) keeps.start in
    subst (λ lens. kept_count core ≤ ends_behind (length (slices_table (said log))) 0 lens) (sym keeps.lens) (omega (arith, many, count))

-- nothing is heard and nothing kept
pub keeps-none : (core : CoreView) → (kept_lens core ≡ []) × (kept_start core ≡ 0) → KeepsLast core []
keeps-none core none = record { given_up = []; lens = sym none.0; start = sym none.1; before = omega (arith, none.1) }

-- where no piece is heard and only those in front are given up, the last ones are kept still
pub keeps-after : (old new : CoreView) (log more : List LinkEvent) → heard_lens more ≡ [] → GivesUp old new → KeepsLast old log → KeepsLast new (log ++ more)
keeps-after old new log more none gives keeps = record {
  given_up = keeps.given_up ++ gives.first;
  lens = heard_lens-append log more ∙ ap (λ lens. heard_lens log ++ lens) none ∙ append-nil (heard_lens log) ∙ keeps.lens
      ∙ ap (λ lens. keeps.given_up ++ lens) gives.lens ∙ sym (append_assoc keeps.given_up gives.first (kept_lens new));
  start = sum_by-append (λ x. x) keeps.given_up gives.first ∙ ap (λ n. n + sum gives.first) keeps.start ∙ gives.start;
  before = gives.before keeps.before;
}

pub keeps-still : (old new : CoreView) (log : List LinkEvent) → GivesUp old new → KeepsLast old log → KeepsLast new log
keeps-still old new log gives keeps = subst (KeepsLast new) (append-nil log) (keeps-after old new log [] refl gives keeps)

-- a piece is heard and kept behind the others
pub keeps-piece : (old new : CoreView) (log : List LinkEvent) (len instant : ℕ) → new.runner ≡ old.runner → new.found ≡ old.found
    → new.waiting ≡ old.waiting ++ record { len = len; instant = instant } ∷ []
    → KeepsLast old log → KeepsLast new (log ++ Piece len instant ∷ [])
keeps-piece old new log len instant runner found waiting keeps = record {
  given_up = keeps.given_up;
  lens = heard_lens-append log (Piece len instant ∷ []) ∙ ap (λ lens. lens ++ len ∷ []) keeps.lens ∙ append_assoc keeps.given_up (kept_lens old) (len ∷ [])
      ∙ ap (λ lens. keeps.given_up ++ lens) (sym more);
  start = keeps.start ∙ ap (λ (runner : RunnerView). if runner.idle then runner.piece.span.stop else runner.piece.span.start) (sym runner);
  before = subst (λ start. start ≤ core_position new) (ap (λ (runner : RunnerView). if runner.idle then runner.piece.span.stop else runner.piece.span.start)
      (sym runner)) (subst (λ position. kept_start old ≤ position) place keeps.before);
}
  where
    first : RunnerView → List ℕ
    first runner = if runner.idle then [] else span_len runner.piece.span ∷ []

    place : core_position old ≡ core_position new
    place = ap (λ found. next_start found old.runner.position) (sym found) ∙ ap (λ (runner : RunnerView). next_start new.found runner.position) (sym runner)

    more : kept_lens new ≡ kept_lens old ++ len ∷ []
    more = ap (λ runner. first runner ++ map (λ piece. piece.len) new.waiting) runner
        ∙ ap (λ waiting. first old.runner ++ map (λ (piece : WaitingPiece). piece.len) waiting) waiting
        ∙ ap (λ lens. first old.runner ++ lens) (map-append (λ (piece : WaitingPiece). piece.len) old.waiting _)
        ∙ sym (append_assoc (first old.runner) (map (λ piece. piece.len) old.waiting) (len ∷ []))

-- where events are heard behind others
pub shallow-append : (before log more : List LinkEvent) → IsShallowBehind before log → IsShallowBehind (before ++ log) more
    → IsShallowBehind before (log ++ more)
shallow-append before [] more first next = subst (λ before. IsShallowBehind before more) (append-nil before) next
shallow-append before (event ∷ log) more first next = (
  first.0,
  shallow-append (before ++ event ∷ []) log more first.1 (subst (λ before. IsShallowBehind before more) (sym (append_assoc before (event ∷ []) log))
      next),
)

pub shallow-front : (before log more : List LinkEvent) → IsShallowBehind before (log ++ more) → IsShallowBehind before log
shallow-front before [] more all = tt
shallow-front before (event ∷ log) more all = (all.0, shallow-front (before ++ event ∷ []) log more all.1)
