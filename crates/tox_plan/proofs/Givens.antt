-- What a runner has given, after each of its calls.
use Rattle.std.proofs.Common.{◌≡◌, List, [], ◌∷◌, ◌++◌, refl, ap, ◌∙◌, sym, subst, append_assoc}
use Rattle.std.proofs.lemmas.List.{append-nil}
use Rattle.tox_time.specs.declared.streams.slice.Slice.{Slice}
use Rattle.tox_time.specs.declared.streams.item.Item.{Item}
use Rattle.tox_time.specs.declared.streams.item.Item.TheVariants.{Chunk, Closed, Reset, Quiet}
use Rattle.tox_time.specs.streams.Stream.{IsStream}
use Rattle.tox_time.specs.streams.Table.{table, slices_table, ending}
use Rattle.tox_compile.specs.Meaning.{Ops, means}
use Rattle.tox_plan.specs.RunnerView.{RunnerView, to_come, HasNoChunk}
use Rattle.tox_plan.specs.Cuts.{IsCut}
use Rattle.tox_plan.specs.Delivering.{PreservesOutput}
use Rattle.tox_plan.specs.Given.{HasGiven, GoesOn, IsLasting, IsWhole}
use Rattle.tox_plan.proofs.Deliveries.{goes-cut}

pub table-no_chunk : (items : List Item) → HasNoChunk items → table items ≡ []
table-no_chunk [] none = refl
table-no_chunk (Chunk span t ∷ items) none = absurd none
table-no_chunk (Closed t ∷ items) none = table-no_chunk items none
table-no_chunk (Reset t ∷ items) none = table-no_chunk items none
table-no_chunk (Quiet ∷ items) none = table-no_chunk items none

-- a new runner
pub given-new : (plan : Ops) (runner : RunnerView) → ((items : List Item) → IsStream items → to_come runner items ≡ means plan runner.drawing.words items)
    → HasGiven plan [] [] runner
given-new plan runner means_plan = record {
  tables = λ items stream. ap table (means_plan items stream);
  endings = λ items stream. ap ending (means_plan items stream);
}

-- an accepted piece
pub given-offer : (old new : RunnerView) (piece : Item) → new.drawing ≡ old.drawing → ((items : List Item) → to_come new items ≡ to_come old (piece ∷ items))
    → GoesOn old (piece ∷ []) [] new
given-offer old new piece drawing takes plan offered given has = record {
  tables = λ items stream. ap (λ slices. slices_table slices ++ table (to_come new items)) (append-nil given)
      ∙ ap (λ items. slices_table given ++ table items) (takes items) ∙ has.tables (piece ∷ items)
      (subst IsStream (append_assoc offered (piece ∷ []) items) stream)
      ∙ ap (λ items. table (means plan old.drawing.words items)) (sym (append_assoc offered (piece ∷ []) items))
      ∙ ap (λ drawing. table (means plan drawing.words ((offered ++ piece ∷ []) ++ items))) (sym drawing);
  endings = λ items stream. ap ending (takes items) ∙ has.endings (piece ∷ items) (subst IsStream (append_assoc offered (piece ∷ []) items) stream)
      ∙ ap (λ items. ending (means plan old.drawing.words items)) (sym (append_assoc offered (piece ∷ []) items))
      ∙ ap (λ drawing. ending (means plan drawing.words ((offered ++ piece ∷ []) ++ items))) (sym drawing);
}

-- what is given, and then to come, stays the same
pub given-goes : (old new : RunnerView) (slices : List Slice) → new.drawing ≡ old.drawing
    → ((given : List Slice) (items : List Item) → PreservesOutput old given items new (given ++ slices) items) → GoesOn old [] slices new
given-goes old new slices drawing goes plan offered given has =
    subst (λ offered. HasGiven plan offered (given ++ slices) new) (sym (append-nil offered))
    (record {
      tables = λ items stream. sym (goes given items).tables ∙ has.tables items stream
          ∙ ap (λ drawing. table (means plan drawing.words (offered ++ items))) (sym drawing);
      endings = λ items stream. sym (goes given items).endings ∙ has.endings items stream
          ∙ ap (λ drawing. ending (means plan drawing.words (offered ++ items))) (sym drawing);
    })

pub given-cut : (old new : RunnerView) (slice : Slice) → new.drawing ≡ old.drawing → IsCut old new slice → GoesOn old [] (slice ∷ []) new
given-cut old new slice drawing cut = given-goes old new (slice ∷ []) drawing (λ given items. goes-cut old new slice given items cut)

pub given-none : (old new : RunnerView) → new.drawing ≡ old.drawing → ((items : List Item) → to_come new items ≡ to_come old items) → GoesOn old [] [] new
given-none old new drawing same = given-goes old new [] drawing (λ given items. record {
  tables = ap (λ slices. slices_table slices ++ table (to_come old items)) (sym (append-nil given))
      ∙ ap (λ items. slices_table (given ++ []) ++ table items) (sym (same items));
  endings = ap ending (sym (same items));
})

-- what was given lasts
pub lasting : (plan : Ops) (offered : List Item) (given : List Slice) (runner : RunnerView) → HasGiven plan offered given runner
    → IsLasting plan runner.drawing.words offered given
lasting plan offered given runner has items stream = (table (to_come runner items), has.tables items stream)

pub whole : (plan : Ops) (offered : List Item) (given : List Slice) (runner : RunnerView) → HasNoChunk (to_come runner (Quiet ∷ []))
    → HasGiven plan offered given runner → IsWhole plan runner.drawing.words offered given
whole plan offered given runner none has stream =
    sym (append-nil (slices_table given)) ∙ ap (λ ts. slices_table given ++ ts) (sym (table-no_chunk (to_come runner (Quiet ∷ [])) none))
    ∙ has.tables (Quiet ∷ []) stream
