-- Slices of an outcome on their way through the pieces.
use Rattle.std.proofs.Common.{◌≡◌, ◌≢◌, ℕ, ◌<◌, ◌≤◌, List, [], ◌∷◌, ◌++◌, replicate, ◌⊎◌, inl, inr, refl, ap, sym, ◌∙◌, subst, arith, append_assoc}
use Rattle.tox_time.specs.declared.streams.ending.Ending.{Ending}
use Rattle.tox_time.specs.declared.streams.item.Item.{Item}
use Rattle.tox_time.specs.declared.streams.item.Item.TheVariants.{Chunk, Closed, Reset, Quiet}
use Rattle.tox_time.specs.declared.streams.slice.Slice.{Slice}
use Rattle.tox_time.specs.streams.Arrivals.{arrival_list}
use Rattle.tox_time.specs.streams.Neighbours.{AreNeighbours}
use Rattle.tox_time.specs.streams.Stream.{arrived as count_of, span_len}
use Rattle.tox_time.specs.streams.Table.{slices_table}
use Rattle.tox_lend.specs.Run.{LiesIn, Run, bytes_at, stop_of}
use Rattle.tox_text.specs.arrivals.ArrivalsText.{Arrived}
use Rattle.tox_text.specs.ResultText.{arrival_of, bytes_line, ending_line, lines_text}
use Rattle.tox_text.proofs.PieceRuns.{StartAnew-behind, StartAnew-instant, lines_text-slice}
use Rattle.tox_text.proofs.Runs.{StartAnew, delivered_from}
use Rattle.tox_runs.specs.runs.OutcomeSlices.{IsApart, IsPending, JoinsTo, StartsBehind, pending_text}
use Rattle.tox_runs.specs.runs.SecondPass.{IsPieceOf, chunk_of}
use Rattle.tox_runs.proofs.PieceLines.{some_first, stands_whole}
use Rattle.tox_runs.proofs.TextTurns.{lies_within}

-- what is apart starts anew
StartAnew-next : (arrived : Arrived) (piece : Run) (t stop : ℕ) (slices : List Slice) → IsPieceOf arrived piece → stop ≤ stop_of piece
    → AreNeighbours (arrival_list arrived.items) stop slices
    → IsApart (stop_of piece) t slices → StartAnew piece.start t (delivered_from arrived stop (slices_table slices))
StartAnew-next arrived piece t stop [] of within neighbours apart = tt
StartAnew-next arrived piece t stop (next ∷ slices) of within neighbours apart = elim apart [
  | inl behind ↦
      let over : stop ≡ stop_of piece = omega (arith, within, behind, neighbours.0) in
      StartAnew-behind arrived piece.start t stop (slices_table (next ∷ slices)) (subst (λ n. arrival_of arrived.items n ≢ piece.start) (sym over) of.behind)
  | inr other ↦
      let first = some_first (span_len next.span) next.instant (slices_table slices) (omega (arith, neighbours.0, neighbours.1)) in
      subst (λ later. StartAnew piece.start t (delivered_from arrived stop later)) (sym first.1)
      (StartAnew-instant arrived piece.start t stop next.instant first.0 other)
]

-- the line of joined slices is the next of what is left
pub pending_text-joined : (arrived : Arrived) (piece : Run) (position : ℕ) (old : List Slice) (slice : Slice) (new : List Slice) (ending : Ending)
    → IsPieceOf arrived piece → piece.start ≤ position
    → JoinsTo (stop_of piece) (arrival_list arrived.items) position old slice new → IsApart (stop_of piece) slice.instant new
    → bytes_line slice.instant slice.span.start (bytes_at piece slice.span) ++ pending_text arrived slice.span.stop new ending
    ≡ pending_text arrived position old ending
pending_text-joined arrived piece position old slice new ending of after joined apart =
    let later = slices_table new in
    let last = ending_line ending in
    let line = bytes_line slice.instant slice.span.start (bytes_at piece slice.span) in
    let part : List ℕ = replicate (span_len slice.span) slice.instant in
    let anew = StartAnew-next arrived piece slice.instant slice.span.stop new of joined.within joined.neighbours apart in
    let some : slice.span.start < slice.span.stop = omega (arith, joined.starts, joined.some) in
    sym (
    ap (λ ts. lines_text (delivered_from arrived position ts) ++ last) joined.tables
    ∙ ap (λ n. lines_text (delivered_from arrived n (part ++ later)) ++ last) (sym joined.starts)
    ∙ ap (λ lines. lines ++ last) (lines_text-slice arrived piece slice later (stands_whole arrived piece of)
    (joined_lies arrived piece position old slice new after joined) some anew)
    ∙ append_assoc line (lines_text (delivered_from arrived slice.span.stop later)) last)
  where
    joined_lies : (arrived : Arrived) (piece : Run) (position : ℕ) (old : List Slice) (slice : Slice) (new : List Slice) → piece.start ≤ position
        → JoinsTo (stop_of piece) (arrival_list arrived.items) position old slice new → LiesIn slice.span piece
    joined_lies arrived piece position old slice new after joined = record
        { from_start = omega (arith, joined.starts, after); in_order = omega (arith, joined.starts, joined.some); to_stop = joined.within }

-- slices that are left within a piece
pub record IsPrinting (arrived : Arrived) (piece : Run) (start : ℕ) (slices : List Slice) : Type 0 where
  pub neighbours : AreNeighbours (arrival_list arrived.items) start slices
  pub within : (slices ≡ []) ⊎ ((piece.start ≤ start) × (start ≤ stop_of piece))

no_slices : (old : List Slice) (slice : Slice) (later : List ℕ) → slices_table old ≡ replicate (span_len slice.span) slice.instant ++ later
    → slice.span.start < slice.span.stop → old ≢ []
no_slices old slice later tables some none =
    let first = some_first (span_len slice.span) slice.instant later (omega (arith, some)) in
    let nothing : slices_table old ≡ [] = ap slices_table none in
    let both : [] ≡ slice.instant ∷ first.0 = sym nothing ∙ tables ∙ first.1 in cc

-- what joins within a piece starts in it
pub starts_in : (arrived : Arrived) (piece : Run) (start : ℕ) (old : List Slice) (slice : Slice) (new : List Slice) → IsPrinting arrived piece start old
    → JoinsTo (stop_of piece) (arrival_list arrived.items) start old slice new → piece.start ≤ start
starts_in arrived piece start old slice new printing joined = elim printing.within [
  | inl none ↦ absurd (no_slices old slice (slices_table new) joined.tables (omega (arith, joined.starts, joined.some)) none)
  | inr within ↦ within.0
]

pub joined_lies : (arrived : Arrived) (piece : Run) (start : ℕ) (old : List Slice) (slice : Slice) (new : List Slice) → IsPrinting arrived piece start old
    → JoinsTo (stop_of piece) (arrival_list arrived.items) start old slice new → LiesIn slice.span piece
joined_lies arrived piece start old slice new printing joined =
    let after = starts_in arrived piece start old slice new printing joined in
    record { from_start = omega (arith, joined.starts, after); in_order = omega (arith, joined.starts, joined.some); to_stop = joined.within }

-- one slice more was printed
pub IsPrinting-next : (arrived : Arrived) (piece : Run) (start : ℕ) (old : List Slice) (slice : Slice) (new : List Slice) → IsPrinting arrived piece start old
    → JoinsTo (stop_of piece) (arrival_list arrived.items) start old slice new → IsPrinting arrived piece slice.span.stop new
IsPrinting-next arrived piece start old slice new printing joined =
    let after = starts_in arrived piece start old slice new printing joined in
    record { neighbours = joined.neighbours; within = inr (omega (arith, after, joined.some), joined.within) }

-- where no slice starts in the piece the next one is come to
pub IsPending-next : (arrived : Arrived) (piece : Run) (first start : ℕ) (whole slices : List Slice) (later : List Item)
    → IsPending whole first arrived piece.start (chunk_of piece ∷ later)
    → IsPrinting arrived piece start slices → StartsBehind (stop_of piece) slices → IsPending slices start arrived (stop_of piece) later
IsPending-next arrived piece first start whole slices later pending printing behind = record {
  neighbours = printing.neighbours;
  stream = pending.stream;
  here = come_to slices printing behind;
  counted = omega (arith, pending.counted);
}
  where
    come_to : (left : List Slice) → IsPrinting arrived piece start left → StartsBehind (stop_of piece) left → (left ≡ []) ⊎ (start ≡ stop_of piece)
    come_to [] printing behind = inl refl
    come_to (next ∷ left) printing behind = elim printing.within [
      | inl none ↦ absurd (cc)
      | inr within ↦ inr (omega (arith, within.1, behind, printing.neighbours.0))
    ]

counted_list : (items : List Item) → count_of (arrival_list items) ≡ count_of items
counted_list [] = refl
counted_list (Chunk span t ∷ items) = omega (arith, counted_list items)
counted_list (Closed t ∷ items) = refl
counted_list (Reset t ∷ items) = refl
counted_list (Quiet ∷ items) = refl

-- behind all arrivals no slice is left
pub none_pending : (arrived : Arrived) (position start : ℕ) (slices : List Slice) → IsPending slices start arrived position [] → slices ≡ []
none_pending arrived position start [] pending = refl
none_pending arrived position start (slice ∷ slices) pending = elim pending.here [
  | inl none ↦ absurd (cc)
  | inr here ↦
      let any = pending.neighbours.2 in
      let most = lies_within 0 0 (arrival_list arrived.items) slice.span pending.stream any.0 any.1 any.2 any.3 any.4 in
      absurd (omega (arith, most, counted_list arrived.items, pending.counted, here, pending.neighbours.1))
]
