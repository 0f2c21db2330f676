-- A slice that a runner gives is no longer to come.
use Rattle.std.proofs.Common.{◌≡◌, ◌≢◌, ℕ, ◌≤◌, true, List, [], ◌∷◌, ◌++◌, replicate, inl, inr, ap, sym, ◌∙◌, subst, arith, append_assoc, None}
use Rattle.std.proofs.lemmas.List.{append-nil}
use Rattle.tox_time.specs.declared.streams.item.Item.{Item}
use Rattle.tox_time.specs.declared.streams.item.Item.TheVariants.{Chunk, Closed, Reset, Quiet}
use Rattle.tox_time.specs.declared.streams.slice.Slice.{Slice}
use Rattle.tox_time.specs.streams.Stream.{latest_from, span_len}
use Rattle.tox_time.specs.declared.streams.ending.Ending.{Ending}
use Rattle.tox_time.specs.declared.streams.ending.Ending.TheVariants.{StillOpen, Closed as ClosedAt, Reset as ResetAt}
use Rattle.tox_time.specs.streams.Table.{ending, final_of, table}
use Rattle.tox_lend.specs.Run.{LiesIn, Run, bytes_at, stop_of}
use Rattle.tox_plan.specs.Cuts.{BeginsApart, EndsHere, IsCut}
use Rattle.tox_plan.specs.RunnerView.{RunnerView, to_come}
use Rattle.tox_plan.specs.Delivering.{IsNextFor, StandsBehind}
use Rattle.tox_plan.specs.Slices.{IsOffered}
use Rattle.tox_plan.proofs.RunnerOutput.{no_chunk-table}
use Rattle.tox_plan.proofs.Deliveries.{ahead_next, goes-cut, next_follows}
use Rattle.tox_text.specs.arrivals.ArrivalsText.{Arrived}
use Rattle.tox_text.specs.ResultText.{arrival_of, bytes_line, ending_line, lines_text}
use Rattle.tox_text.proofs.PieceRuns.{StartAnew-behind, StartAnew-instant, lines_text-slice}
use Rattle.tox_text.proofs.Runs.{StartAnew, delivered_from}
use Rattle.tox_runs.specs.runs.RunnerSlices.{MayComeNext, text_to_come}
use Rattle.tox_runs.specs.runs.SecondPass.{IsPieceOf}
use Rattle.tox_runs.proofs.PieceLines.{some_first, stands_whole}

-- what comes apart starts anew
StartAnew-apart : (arrived : Arrived) (arrival t position : ℕ) (items : List Item) → BeginsApart t items
    → StartAnew arrival t (delivered_from arrived position (table items))
StartAnew-apart arrived arrival t position [] apart = tt
StartAnew-apart arrived arrival t position (Chunk span u ∷ items) apart =
    let first = some_first (span_len span) u (table items) (omega (arith, apart.0)) in
    subst (λ later. StartAnew arrival t (delivered_from arrived position later)) (sym first.1) (StartAnew-instant arrived arrival t position u first.0 apart.1)
StartAnew-apart arrived arrival t position (Closed u ∷ items) apart = subst (λ later. StartAnew arrival t (delivered_from arrived position later))
    (sym (no_chunk-table items apart)) tt
StartAnew-apart arrived arrival t position (Reset u ∷ items) apart = subst (λ later. StartAnew arrival t (delivered_from arrived position later))
    (sym (no_chunk-table items apart)) tt
StartAnew-apart arrived arrival t position (Quiet ∷ items) apart = subst (λ later. StartAnew arrival t (delivered_from arrived position later))
    (sym (no_chunk-table items apart)) tt

StartAnew-here : (arrived : Arrived) (piece : Run) (runner : RunnerView) (t : ℕ) (items : List Item) → IsPieceOf arrived piece
    → runner.piece.span.stop ≡ stop_of piece → EndsHere t runner
    → StartAnew piece.start t (delivered_from arrived runner.position (table (to_come runner items)))
StartAnew-here arrived piece runner t items of stops ends = elim ends [
  | inl over ↦ StartAnew-behind arrived piece.start t runner.position (table (to_come runner items))
      (subst (λ n. arrival_of arrived.items n ≢ piece.start) (sym (over ∙ stops)) of.behind)
  | inr apart ↦ StartAnew-apart arrived piece.start t runner.position (to_come runner items) (apart items)
]

-- the line of a slice is the next of what is left
lines_left-cut : (arrived : Arrived) (piece : Run) (old new : RunnerView) (slice : Slice) (items : List Item) → IsPieceOf arrived piece → IsOffered old piece
    → new.piece ≡ old.piece
    → IsCut old new slice → slice.span.start ≡ old.position → new.position ≡ slice.span.stop → EndsHere slice.instant new
    → bytes_line slice.instant slice.span.start (bytes_at piece slice.span) ++ lines_text (delivered_from arrived new.position (table (to_come new items)))
    ≡ lines_text (delivered_from arrived old.position (table (to_come old items)))
lines_left-cut arrived piece old new slice items of offered same cut starts stops ends =
    let later = table (to_come new items) in
    let part : List ℕ = replicate (span_len slice.span) slice.instant in
    let comes : table (to_come old items) ≡ part ++ later = (goes-cut old new slice [] items cut).tables ∙ ap (λ ts. ts ++ later) (append-nil part) in
    let lies : LiesIn slice.span piece = record {
      from_start = omega (arith, cut.within.from, offered.starts);
      in_order = omega (arith, cut.within.some);
      to_stop = omega (arith, cut.within.to, offered.stops);
    } in
    let anew : StartAnew piece.start slice.instant (delivered_from arrived slice.span.stop later) =
    subst (λ n. StartAnew piece.start slice.instant (delivered_from arrived n later)) stops
    (StartAnew-here arrived piece new slice.instant items of (ap (λ p. p.span.stop) same ∙ offered.stops) ends) in
    sym (
    ap (λ ts. lines_text (delivered_from arrived old.position ts)) comes
    ∙ ap (λ n. lines_text (delivered_from arrived n (part ++ later))) (sym starts)
    ∙ lines_text-slice arrived piece slice later (stands_whole arrived piece of) lies cut.within.some anew
    ∙ ap (λ n. bytes_line slice.instant slice.span.start (bytes_at piece slice.span) ++ lines_text (delivered_from arrived n later)) (sym stops))

-- and so it is with the ending behind the lines
pub text_to_come-cut : (arrived : Arrived) (piece : Run) (old new : RunnerView) (slice : Slice) (items : List Item) → IsPieceOf arrived piece
    → IsOffered old piece → new.piece ≡ old.piece
    → IsCut old new slice → slice.span.start ≡ old.position → new.position ≡ slice.span.stop → EndsHere slice.instant new
    → bytes_line slice.instant slice.span.start (bytes_at piece slice.span) ++ text_to_come arrived new items ≡ text_to_come arrived old items
text_to_come-cut arrived piece old new slice items of offered same cut starts stops ends =
    let last = ending_line (ending (to_come new items)) in
    let later = lines_text (delivered_from arrived new.position (table (to_come new items))) in
    let ending_same : ending (to_come new items) ≡ ending (to_come old items) = sym (goes-cut old new slice [] items cut).endings in
    sym (append_assoc (bytes_line slice.instant slice.span.start (bytes_at piece slice.span)) later last)
    ∙ ap (λ lines. lines ++ last) (lines_left-cut arrived piece old new slice items of offered same cut starts stops ends)
    ∙ ap (λ end. lines_text (delivered_from arrived old.position (table (to_come old items))) ++ ending_line end) ending_same

pub IsOffered-same : (old new : RunnerView) (piece : Run) → new.piece ≡ old.piece → IsOffered old piece → IsOffered new piece
IsOffered-same old new piece same offered = record {
  starts = ap (λ p. p.span.start) same ∙ offered.starts;
  stops = ap (λ p. p.span.stop) same ∙ offered.stops;
  arrives = ap (λ p. p.instant) same ∙ offered.arrives;
}

-- the same is left where the same is to come from the same position on
pub text_to_come-same : (arrived : Arrived) (old new : RunnerView) (xs ys : List Item) → new.position ≡ old.position → to_come new ys ≡ to_come old xs
    → text_to_come arrived new ys ≡ text_to_come arrived old xs
text_to_come-same arrived old new xs ys position comes =
    ap (λ items. lines_text (delivered_from arrived new.position (table items)) ++ ending_line (ending items)) comes
    ∙ ap (λ n. lines_text (delivered_from arrived n (table (to_come old xs))) ++ ending_line (ending (to_come old xs))) position

-- where the ending alone is to come it is all that is left
pub ended_text : (arrived : Arrived) (runner : RunnerView) (items : List Item) (last : Ending) → to_come runner items ≡ final_of last ∷ []
    → text_to_come arrived runner items ≡ ending_line last
ended_text arrived runner items StillOpen is = ap (λ items. lines_text (delivered_from arrived runner.position (table items)) ++ ending_line (ending items)) is
ended_text arrived runner items (ClosedAt t) is = ap (λ items. lines_text (delivered_from arrived runner.position (table items)) ++ ending_line (ending items))
    is
ended_text arrived runner items (ResetAt t) is = ap (λ items. lines_text (delivered_from arrived runner.position (table items)) ++ ending_line (ending items))
    is

-- the runner stands at the item, unless its ending is known
pub record HasTaken (runner : RunnerView) (item : Item) : Type 0 where
  pub latest : (since : ℕ) → runner.latest ≤ latest_from since (item ∷ [])
  pub stands : runner.ending ≡ None → StandsBehind runner item

pub next_for : (runner : RunnerView) (item : Item) (items : List Item) → MayComeNext runner (item ∷ items) → IsNextFor runner item
next_for runner item items ready = next_follows runner item items ready.ahead

-- behind the item that was taken the others come next
pub MayComeNext-next : (old new : RunnerView) (item : Item) (items : List Item) → MayComeNext old (item ∷ items) → new.idle ≡ true → HasTaken new item
    → MayComeNext new items
MayComeNext-next old new item items ready idle taken = record {
  idle = idle;
  ahead =
      ahead_next old new item items ready.ahead (taken.latest old.latest) taken.stands;
}
