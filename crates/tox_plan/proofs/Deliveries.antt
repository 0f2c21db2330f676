-- Slices that are given one after the other, and what they come to.
use Rattle.std.proofs.Common.{◌≡◌, ℕ, zero, suc, ◌+◌, ◌-◌, ◌<◌, ◌≤◌, ◌^◌, List, [], ◌∷◌, ◌++◌, map, length, drop, get_or, add-one, drop-cons, replicate, None}
use Rattle.std.proofs.Common.{refl, ap, ◌∙◌, sym, subst, arith, append_assoc}
use Rattle.std.specs.Prelude.{Any}
use Rattle.std.proofs.lemmas.List.{append-nil, replicate-append-replicate}
use Rattle.tox_time.specs.declared.streams.span.Span.{Span}
use Rattle.tox_time.specs.declared.streams.slice.Slice.{Slice}
use Rattle.tox_time.specs.declared.streams.outcome.Outcome.{Outcome}
use Rattle.tox_time.specs.declared.streams.item.Item.{Item}
use Rattle.tox_time.specs.declared.streams.item.Item.TheVariants.{Chunk, Closed, Reset, Quiet}
use Rattle.tox_time.specs.declared.streams.ending.Ending.{Ending}
use Rattle.tox_time.specs.declared.streams.ending.Ending.TheVariants.{StillOpen, Closed as ClosedAt, Reset as ResetAt}
use Rattle.tox_time.specs.streams.Stream.{IsStreamFrom, HasReset, arrived, latest_from, span_len}
use Rattle.tox_time.specs.streams.Arrivals.{arrival_list}
use Rattle.tox_time.specs.streams.Table.{final_of, table, slices_table, ending, IsOutcomeOf}
use Rattle.tox_time.specs.streams.Neighbours.{AreNeighbours, LiesInChunk}
use Rattle.tox_time.proofs.StreamLemmas.{table-append}
use Rattle.tox_defs.specs.operations.Look.{as_chunk}
use Rattle.tox_plan.specs.RunnerView.{RunnerView, to_come, no_piece}
use Rattle.tox_plan.specs.Cuts.{Reach, IsCut, IsWithin}
use Rattle.tox_plan.specs.Delivering.{PreservesOutput, stop_from, IsNextFor, EndsAt, StandsAt, StandsBehind}

pub slices_table-append : (xs ys : List Slice) → slices_table (xs ++ ys) ≡ slices_table xs ++ slices_table ys
slices_table-append [] ys = refl
slices_table-append (x ∷ xs) ys =
    ap (λ ts. replicate (span_len x.span) x.instant ++ ts) (slices_table-append xs ys)
    ∙ sym (append_assoc (replicate (span_len x.span) x.instant) (slices_table xs) (slices_table ys))

pub reach-below : (start stop t : ℕ) (cuts : List Slice) → Reach start stop t cuts → start ≤ stop
reach-below start stop t [] reach = omega (arith, reach)
reach-below start stop t (cut ∷ cuts) reach =
    let below : cut.span.stop ≤ stop = reach-below cut.span.stop stop t cuts reach.3 in
    omega (arith, reach.1)

-- cuts that together are a slice have its part of the table
table-cuts : (start stop t : ℕ) (cuts : List Slice) → Reach start stop t cuts → table (map as_chunk cuts) ≡ replicate (stop - start) t
table-cuts start stop t [] reach = let none : stop - start ≡ 0 = omega (arith, reach) in rw none refl
table-cuts start stop t (cut ∷ cuts) reach =
    let below : cut.span.stop ≤ stop = reach-below cut.span.stop stop t cuts reach.3 in
    let whole : span_len cut.span + (stop - cut.span.stop) ≡ stop - start = omega (arith, reach.0, reach.1) in
    ap (λ ts. replicate (span_len cut.span) cut.instant ++ ts) (table-cuts cut.span.stop stop t cuts reach.3)
    ∙ ap (λ instant. replicate (span_len cut.span) instant ++ replicate (stop - cut.span.stop) t) reach.2
    ∙ replicate-append-replicate (span_len cut.span) (stop - cut.span.stop) t
    ∙ ap (λ n. replicate n t) whole

ending-cuts : (cuts : List Slice) (items : List Item) → ending (map as_chunk cuts ++ items) ≡ ending items
ending-cuts [] items = refl
ending-cuts (cut ∷ cuts) items = ending-cuts cuts items

pub goes-same : (runner : RunnerView) (given : List Slice) (items : List Item) → PreservesOutput runner given items runner given items
goes-same runner given items = record { tables = refl; endings = refl }

pub goes-on : (a b c : RunnerView) (xs ys zs : List Slice) (us vs ws : List Item) → PreservesOutput a xs us b ys vs → PreservesOutput b ys vs c zs ws
    → PreservesOutput a xs us c zs ws
goes-on a b c xs ys zs us vs ws first second = record { tables = first.tables ∙ second.tables; endings = first.endings ∙ second.endings }

-- a cut that is given is no longer to come
pub goes-cut : (old new : RunnerView) (slice : Slice) (given : List Slice) (items : List Item) → IsCut old new slice
    → PreservesOutput old given items new (given ++ slice ∷ []) items
goes-cut old new slice given items cut =
    let part : List ℕ = replicate (span_len slice.span) slice.instant in
    let comes : table (to_come old items) ≡ part ++ table (to_come new items)
    = ap table (cut.gives items) ∙ table-append (map as_chunk cut.cuts) (to_come new items)
    ∙ ap (λ ts. ts ++ table (to_come new items)) (table-cuts slice.span.start slice.span.stop slice.instant cut.cuts cut.parts) in
    record {
      tables = ap (λ ts. slices_table given ++ ts) comes
          ∙ sym (append_assoc (slices_table given) part (table (to_come new items)))
          ∙ ap (λ ts. (slices_table given ++ ts) ++ table (to_come new items)) (sym (append-nil part))
          ∙ ap (λ ts. ts ++ table (to_come new items)) (sym (slices_table-append given (slice ∷ [])));
      endings = ap ending (cut.gives items) ∙ ending-cuts cut.cuts (to_come new items);
    }

pub stop_from-append : (position : ℕ) (slices : List Slice) (slice : Slice) → stop_from position (slices ++ slice ∷ []) ≡ slice.span.stop
stop_from-append position [] slice = refl
stop_from-append position (first ∷ slices) slice = stop_from-append first.span.stop slices slice

-- one more slice goes on with its neighbours
pub neighbours-append : (items : List Item) (position : ℕ) (slices : List Slice) (slice : Slice) → AreNeighbours items position slices
    → slice.span.start ≡ stop_from position slices → slice.span.start < slice.span.stop → Any (LiesInChunk slice.span) items
    → AreNeighbours items position (slices ++ slice ∷ [])
neighbours-append items position [] slice neighbours here some lies = (here, omega (arith, here, some), lies, tt)
neighbours-append items position (first ∷ slices) slice neighbours here some lies =
    (neighbours.0, neighbours.1, neighbours.2, neighbours-append items first.span.stop slices slice neighbours.3 here some lies)

-- what lies in a part of an arrival lies in the arrival
lies-within : (piece slice : Slice) (item : Item) → IsWithin piece slice → LiesInChunk piece.span item → LiesInChunk slice.span item
lies-within piece slice (Chunk span t) within lies = (omega (arith, within.from, lies.0), omega (arith, within.to, lies.1))
lies-within piece slice (Closed t) within lies = lies
lies-within piece slice (Reset t) within lies = lies
lies-within piece slice Quiet within lies = lies

pub any-within : (items : List Item) (piece slice : Slice) → IsWithin piece slice → Any (LiesInChunk piece.span) items → Any (LiesInChunk slice.span) items
any-within items piece slice within lies = (lies.0, lies.1, lies.2, lies.3, lies-within piece slice lies.1 within lies.4)

-- an arrival lies in itself
pub any-itself : (items : List Item) (span : Span) (t : ℕ) → Any (λ other. other ≡ Chunk span t) items → Any (LiesInChunk span) items
any-itself items span t among =
    (among.0, among.1, among.2, among.3, subst (λ item. LiesInChunk span item) (sym among.4) (omega arith, omega arith))

at-arrival_list : (items : List Item) (k : ℕ) (d : Item) → k < length items
    → (k < length (arrival_list items)) × (get_or (arrival_list items) k d ≡ get_or items k d)
at-arrival_list [] k d within = absurd (omega (arith, within))
at-arrival_list (Chunk span t ∷ items) zero d within = (omega arith, refl)
at-arrival_list (Chunk span t ∷ items) (suc k) d within = let later = at-arrival_list items k d (omega (arith, within)) in (omega (arith, later.0), later.1)
at-arrival_list (Closed t ∷ items) k d within = (within, refl)
at-arrival_list (Reset t ∷ items) k d within = (within, refl)
at-arrival_list (Quiet ∷ items) k d within = (within, refl)

-- a stored item is one of the arrival list
pub any-stored : (P : Item → Type 0) (items : List Item) → Any P items → Any P (arrival_list items)
any-stored P items any =
    let here = at-arrival_list items any.0 any.1 any.2 in (any.0, any.1, here.0, here.1 ∙ any.3, any.4)

-- the items go on after the last piece, at which the runner stands unless its ending is known
pub record IsAhead (runner : RunnerView) (items : List Item) : Type 0 where
  pub last : Slice
  pub stream : IsStreamFrom last.span.stop last.instant (arrival_list items)
  pub no_reset : HasReset (arrival_list items) → ⊥
  pub few : last.span.stop + arrived items ≤ 2 ^ 40
  pub latest : runner.latest ≤ last.instant
  pub stands : runner.ending ≡ None → StandsAt runner last

-- the next item may follow
pub next_follows : (runner : RunnerView) (item : Item) (items : List Item) → IsAhead runner (item ∷ items) → IsNextFor runner item
next_follows runner (Chunk span t) items ahead =
    record {
      last = ahead.last;
      follows = (ahead.stream.0, omega (arith, ahead.stream.0, ahead.stream.1), omega (arith, ahead.stream.0, ahead.stream.1, ahead.few), ahead.stream.2);
      latest = ahead.latest;
      stands = ahead.stands;
    }
next_follows runner (Closed t) items ahead = record { last = ahead.last; follows = ahead.stream.0; latest = ahead.latest; stands = ahead.stands }
next_follows runner (Reset t) items ahead = absurd (ahead.no_reset tt)
next_follows runner Quiet items ahead = record { last = ahead.last; follows = tt; latest = ahead.latest; stands = ahead.stands }

-- nothing comes after a final
pub ends_at : (runner : RunnerView) (item : Item) (items : List Item) → IsAhead runner (item ∷ items) → EndsAt item items
ends_at runner (Chunk span t) items ahead = tt
ends_at runner (Closed t) items ahead = ahead.stream.2
ends_at runner (Reset t) items ahead = ahead.stream.2
ends_at runner Quiet items ahead = ahead.stream

empty_ahead : (runner : RunnerView) (last : Slice) → last.span.stop ≤ 2 ^ 40 → runner.latest ≤ last.instant → (runner.ending ≡ None → StandsAt runner last)
    → IsAhead runner []
empty_ahead runner last few latest stands = record {
  last = last;
  stream = refl;
  no_reset = λ reset. reset;
  few = omega (arith, few);
  latest = latest;
  stands =
      stands;
}

-- the runner behind the next item
pub ahead_next : (old new : RunnerView) (item : Item) (items : List Item) → IsAhead old (item ∷ items) → new.latest ≤ latest_from old.latest (item ∷ [])
    → (new.ending ≡ None → StandsBehind new item) → IsAhead new items
ahead_next old new (Chunk span t) items ahead latest stands = record {
  last = record { span = span; instant = t };
  stream = ahead.stream.4;
  no_reset = ahead.no_reset;
  few = omega (arith, ahead.stream.0, ahead.stream.1, ahead.few);
  latest = latest;
  stands = stands;
}
ahead_next old new (Closed t) items ahead latest stands =
    subst (λ items. IsAhead new items) (sym ahead.stream.2) (empty_ahead new (record { span = ahead.last.span; instant = t }) (omega (arith, ahead.few)) latest
    (λ none. absurd (stands none)))
ahead_next old new (Reset t) items ahead latest stands = absurd (ahead.no_reset tt)
ahead_next old new Quiet items ahead latest stands =
    subst (λ items. IsAhead new items) (sym ahead.stream) (empty_ahead new (record { span = record { start = 0; stop = 0 }; instant = new.latest })
    (omega arith) (omega arith) (λ none. absurd (stands none)))

-- a stored arrival list goes on from its first position
pub stored_ahead : (runner : RunnerView) (items : List Item) → IsStreamFrom 0 0 (arrival_list items) → (HasReset (arrival_list items) → ⊥)
    → arrived items ≤ 2 ^ 40 → runner.latest ≡ 0 → runner.piece ≡ no_piece → IsAhead runner items
stored_ahead runner items stream no_reset few latest piece = record {
  last = no_piece;
  stream = stream;
  no_reset = no_reset;
  few = omega (arith, few);
  latest = omega (arith, latest);
  stands = λ none. (piece, latest);
}

pub drop-item : (place : ℕ) (items : List Item) (item : Item) → place < length items → drop place items ≡ get_or items place item ∷ drop (place + 1) items
drop-item place items item below = rw (add-one, drop-cons items place item) refl

-- an ending that alone is to come
ending-final : (end : Ending) → end ≡ ending (final_of end ∷ [])
ending-final StillOpen = refl
ending-final (ClosedAt t) = refl
ending-final (ResetAt t) = refl

table-final : (end : Ending) → table (final_of end ∷ []) ≡ []
table-final StillOpen = refl
table-final (ClosedAt t) = refl
table-final (ResetAt t) = refl

-- all slices were given, and the ending alone is to come
pub outcome_of : (first runner : RunnerView) (items all : List Item) (outcome : Outcome) → PreservesOutput first [] all runner outcome.slices items
    → to_come runner items ≡ final_of outcome.ending ∷ [] → (flow : List Item) → to_come first all ≡ flow → IsOutcomeOf flow outcome
outcome_of first runner items all outcome goes last flow is = record {
  tables = sym (append-nil (slices_table outcome.slices)) ∙ ap (λ ts. slices_table outcome.slices ++ ts) (sym (table-final outcome.ending))
      ∙ ap (λ items. slices_table outcome.slices ++ table items) (sym last) ∙ sym goes.tables ∙ ap table is;
  endings = ending-final outcome.ending ∙ ap ending (sym last) ∙ sym goes.endings ∙ ap ending is;
}

-- neighbours among the stored items are neighbours in the arrival list
pub neighbours-stored : (items : List Item) (position : ℕ) (slices : List Slice) → AreNeighbours items position slices
    → AreNeighbours (arrival_list items) position slices
neighbours-stored items position [] neighbours = tt
neighbours-stored items position (slice ∷ slices) neighbours =
    (neighbours.0, neighbours.1, any-stored (LiesInChunk slice.span) items neighbours.2, neighbours-stored items slice.span.stop slices neighbours.3)
