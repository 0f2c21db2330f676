-- A look for the next slice.
use Rattle.std.proofs.Common.{◌≡◌, ℕ, ◌+◌, ◌<◌, ◌≤◌, ◌^◌, Bool, true, false, List, [], ◌∷◌, ◌++◌, length, map, append_assoc, replicate, Option, Some, None}
use Rattle.std.proofs.Common.{refl, ap, ◌∙◌, sym, subst, arith, ◌⊎◌, inl, inr, if◌then◌else◌}
use Rattle.std.specs.Prelude.{IsNone, IfSome, IfNone, Ok, Err, nat_lt, is_some, ◌==◌, ◌↔◌}
use Rattle.std.proofs.lemmas.List.Sums.{sum_by-append}
use Rattle.std.proofs.lemmas.Bool.{le-ltb}
use Rattle.tox_time.specs.declared.streams.slice.Slice.{Slice}
use Rattle.tox_time.specs.declared.streams.item.Item.{Item}
use Rattle.tox_time.specs.declared.streams.item.Item.TheVariants.{Quiet}
use Rattle.tox_time.specs.declared.streams.ending.Ending.{Ending}
use Rattle.tox_time.specs.declared.streams.arrivals.ArrivalFault.{ArrivalFault}
use Rattle.tox_time.specs.declared.streams.arrivals.ArrivalFault.TheVariants.{TimeBack, EmptyPiece, TooManyBytes, AfterEnd}
use Rattle.tox_time.specs.streams.Arrivals.{piece_fault}
use Rattle.tox_time.specs.streams.Stream.{span_len}
use Rattle.tox_time.specs.streams.Table.{SameResult, table, ending}
use Rattle.std.proofs.lemmas.List.{append-nil}
use Rattle.tox_defs.specs.operations.Look.{as_chunk}
use Rattle.tox_plan.specs.OpCursors.{ops_of}
use Rattle.tox_plan.specs.Cuts.{IsCut, IsWithin, GivesCut, GivesNoCut, KeepsOffers, BeginsApart}
use Rattle.tox_plan.specs.RunnerView.{RunnerView, HasNoChunk, to_come, found_chunk, known_ending, next_piece, answer_of, offer_answer}
use Rattle.tox_plan.specs.Delivering.{PreservesOutput}
use Rattle.tox_plan.proofs.Deliveries.{goes-cut}
use Rattle.tox_plan.proofs.RunnerOutput.{to_come-ended}
use Rattle.tox_link.specs.declared.link_core.waiting.WaitingPiece.{WaitingPiece}
use Rattle.tox_link.specs.declared.link_core.act.Act.{Act}
use Rattle.tox_link.specs.declared.link_core.act.Act.TheVariants.{Write, WaitUntil, WaitForInput, End}
use Rattle.tox_link.specs.link_core.Acts.{After, Answered}
use Rattle.tox_link.specs.link_core.Core.{CoreView, remaining_output, arrivals_from, end_or, Looked, GivesUp, core_position, kept_lens, kept_start, next_start}
use Rattle.tox_link.specs.link_core.Core.{IsDrained}
use Rattle.tox_link.specs.link_core.CoreKept.{IsCore, IsOver, IsFoundSlice, AreTimely, arrived_by, total_len}
use Rattle.tox_link.proofs.WaitingLemmas.{timely-earlier}
use Rattle.tox_link.proofs.CoreLemmas.{over-same}

pub same-refl : (xs : List Item) → SameResult xs xs
same-refl xs = record { tables = refl; endings = refl }

pub same-of : (xs ys : List Item) → xs ≡ ys → SameResult xs ys
same-of xs ys same = record { tables = ap table same; endings = ap ending same }

pub same-both : (xs ys zs : List Item) → SameResult xs ys → SameResult ys zs → SameResult xs zs
same-both xs ys zs first second = record { tables = first.tables ∙ second.tables; endings = first.endings ∙ second.endings }

-- nothing is given up
pub gives-none : (core : CoreView) → GivesUp core core
gives-none core = record { first = []; lens = refl; start = omega arith; before = λ before. before }

pub gives-both : (a b c : CoreView) → GivesUp a b → GivesUp b c → GivesUp a c
gives-both a b c first second = record {
  first = first.first ++ second.first;
  lens = first.lens ∙ ap (λ rest. first.first ++ rest) second.lens ∙ sym (append_assoc first.first second.first (kept_lens c));
  start = let both = sum_by-append (λ x. x) first.first second.first in let one = first.start in let two = second.start in omega (arith, both, one, two);
  before = λ before. second.before (first.before before);
}

-- whatever room there is
gives-anyhow : (old new : CoreView) (before after : ℕ) → GivesUp old new → GivesUp (record old { room = before }) (record new { room = after })
gives-anyhow old new before after gives = record { first = gives.first; lens = gives.lens; start = gives.start; before = gives.before }

after-anyhow : (old new : CoreView) (before after now : ℕ) (act : Act) → After old now act new
    → After (record old { room = before }) now act (record new { room = after })
after-anyhow old new before after now (Write slice) (due, takes) = (
  due,
  record {
    tables = takes.tables;
    endings = takes.endings;
    starts = takes.starts;
    stops = takes.stops;
    within = takes.within;
    arrived = takes.arrived;
    apart = takes.apart;
  },
)
after-anyhow old new before after now (WaitUntil t) (ahead, leaves) = (ahead, record { output = leaves.output; position = leaves.position })
after-anyhow old new before after now WaitForInput leaves = record { output = leaves.output; position = leaves.position }
after-anyhow old new before after now (End last) leaves = record { output = leaves.output; position = leaves.position }

pub answered-anyhow : (old new : CoreView) (before after now : ℕ) (act : Act) → Answered old new now act
    → Answered (record old { room = before }) (record new { room = after }) now act
answered-anyhow old new before after now act answered = let kept = answered.kept in record {
  slice = answered.slice;
  idle = answered.idle;
  ended = answered.ended;
  dropped = answered.dropped;
  overdue = answered.overdue;
  unended = answered.unended;
  output = after-anyhow old new before after now act answered.output;
  over = answered.over;
  kept = record {
    drawing = kept.drawing;
    ops = kept.ops;
    ended = kept.ended;
    bytes = kept.bytes;
    waiting = kept.waiting;
    count = kept.count;
    cuts = kept.cuts;
    ending = kept.ending;
  };
  given_up = λ unknown. gives-anyhow old new before after (answered.given_up unknown);
  holds = answered.holds;
  latest = answered.latest;
}

pub looked-none : (core : CoreView) → Looked core core
looked-none core = record {
  output = λ items. same-refl (remaining_output core items);
  position = refl;
  drawing = refl;
  ops = refl;
  end = refl;
  ended = refl;
  bytes = refl;
  latest = refl;
  waiting = ([], refl);
  count = omega arith;
  cuts = omega arith;
  finished = refl;
  unknown = λ none. none;
  given_up = λ none. gives-none core;
}

pub looked-both : (a b c : CoreView) → Looked a b → Looked b c → Looked a c
looked-both a b c first second = record {
  output = λ items. same-both (remaining_output c items) (remaining_output b items) (remaining_output a items) (second.output items) (first.output items);
  position = second.position ∙ first.position;
  drawing = second.drawing ∙ first.drawing;
  ops = second.ops ∙ first.ops;
  end = second.end ∙ first.end;
  ended = second.ended ∙ first.ended;
  bytes = second.bytes ∙ first.bytes;
  latest = second.latest ∙ first.latest;
  waiting = (
    first.waiting.0 ++ second.waiting.0,
    first.waiting.1 ∙ ap (λ rest. first.waiting.0 ++ rest) second.waiting.1
        ∙ sym (append_assoc first.waiting.0 second.waiting.0 c.waiting),
  );
  count = omega (arith, first.count, second.count);
  cuts = omega (arith, first.cuts, second.cuts);
  finished = second.finished ∙ first.finished;
  unknown = λ none. first.unknown (second.unknown none);
  given_up = λ none. gives-both a b c (first.given_up (second.unknown none)) (second.given_up none);
}

-- a cut of a runner, as one slice, has its part of the result
cut-same : (old new : RunnerView) (slice : Slice) → IsCut old new slice → (items : List Item)
    → SameResult (as_chunk slice ∷ to_come new items) (to_come old items)
cut-same old new slice cut items =
    let goes : PreservesOutput old [] items new (slice ∷ []) items = goes-cut old new slice [] items cut in
    record {
      tables = sym (goes.tables ∙ ap (λ ts. ts ++ table (to_come new items)) (append-nil (replicate (span_len slice.span) slice.instant)));
      endings = sym goes.endings;
    }

-- a runner takes a piece that fits, unless its ending is known
takes : (runner : RunnerView) (len instant : ℕ) → runner.latest ≤ instant → 0 < len → runner.piece.span.stop + len ≤ 2 ^ 40 → runner.ending ≡ None
    → offer_answer runner len instant ≡ Ok tt
takes runner len instant later some few open_yet =
    let in_time : nat_lt instant runner.latest ≡ false = le-ltb instant runner.latest later in
    let few_bytes : nat_lt (2 ^ 40) (runner.piece.span.stop + len) ≡ false = le-ltb (2 ^ 40) (runner.piece.span.stop + len) few in
    let not_empty : (len == 0) ≡ false = grind (arith, some) in
    rw (in_time, not_empty, few_bytes, open_yet) refl

-- so one that took a piece knows none
pub taken-running : (runner : RunnerView) (len instant : ℕ) → Ok tt ≡ offer_answer runner len instant → runner.ending ≡ None
taken-running runner len instant taken = by runner.ending refl
  where
    never : (back empty many : Bool) → Ok tt ≡ answer_of (if back then Some TimeBack else
        (if empty then Some EmptyPiece else (if many then Some TooManyBytes else Some AfterEnd))) → ⊥
    never true empty many same = cc
    never false true many same = cc
    never false false true same = cc
    never false false false same = cc

    by : (known : Option Ending) → runner.ending ≡ known → runner.ending ≡ None
    by None is = is
    by (Some last) is =
        absurd (never (nat_lt instant runner.latest) (len == 0) (nat_lt (2 ^ 40) (runner.piece.span.stop + len))
        (subst (λ known. Ok tt ≡ answer_of (piece_fault runner.piece.span.stop runner.latest (is_some known) len instant)) is taken))

-- the ending that a busy runner and an idle one know
pub busy-unknown : (runner : RunnerView) → runner.idle ≡ false → known_ending runner ≡ None
busy-unknown runner busy = ap (λ idle. if idle then runner.ending else None) busy

pub idle-known : (runner : RunnerView) → runner.idle ≡ true → known_ending runner ≡ runner.ending
idle-known runner idle = ap (λ idle. if idle then runner.ending else None) idle

-- so where an idle one refuses a piece, it is over
refused-over : (runner : RunnerView) (len instant : ℕ) (fault : ArrivalFault) → runner.idle ≡ true → runner.latest ≤ instant → 0 < len
    → runner.piece.span.stop + len ≤ 2 ^ 40 → offer_answer runner len instant ≡ Err fault → IsOver runner
refused-over runner len instant fault idle later some few refused = by runner.ending refl
  where
    by : (known : Option Ending) → runner.ending ≡ known → IsOver runner
    by None is = absurd (let both : Ok tt ≡ Err fault = sym (takes runner len instant later some few is) ∙ refused in cc)
    by (Some last) is = record { last = last; known = idle-known runner idle ∙ is; only = λ items. to_come-ended runner last items is }

-- a runner that has no next cut
pub record Stays (old new : RunnerView) : Type 0 where
  pub idle : new.idle ≡ true
  pub position : new.position ≡ old.position
  pub from : old.idle ≡ false → old.piece.span.start ≤ old.position
  pub whole : new.ending ≡ None → new.position ≡ old.piece.span.stop
  pub same : (items : List Item) → to_come new items ≡ to_come old items

-- where a slice that is the next cut stands
pub record Stands (old new : RunnerView) (slice : Slice) : Type 0 where
  pub starts : slice.span.start ≡ old.position
  pub stops : new.position ≡ slice.span.stop
  pub busy : new.idle ≡ false

-- what a runner that isn't idle makes of a call for its next cut
pub record Cuts (old new : RunnerView) (found : Option Slice) : Type 0 where
  pub some : IfSome found (IsCut old new)
  pub place : IfSome found (Stands old new)
  pub apart : IfSome found (λ slice. BeginsApart slice.instant (to_come new (Quiet ∷ [])))
  pub drained : IsNone found → HasNoChunk (to_come old (Quiet ∷ []))
  pub idle : IfNone found (Stays old new)
  pub drawing : new.drawing ≡ old.drawing
  pub finished : new.finished ≡ old.finished
  pub piece : new.piece ≡ old.piece
  pub latest : new.latest ≡ old.latest
  pub ops : ops_of new.cursors ≡ ops_of old.cursors
  pub counted : old.cuts ≤ new.cuts

-- the slice is one or more cuts
cut_of : (old new : RunnerView) (found : Option Slice) → IfSome found (GivesCut old new) → IfSome found (IsCut old new)
cut_of old new None gives = tt
cut_of old new (Some slice) gives = gives.cut

stands_of : (old new : RunnerView) (found : Option Slice) → IfSome found (GivesCut old new) → IfSome found (Stands old new)
stands_of old new None gives = tt
stands_of old new (Some slice) gives = record { starts = gives.begins; stops = gives.stands; busy = gives.busy }

apart_of : (old new : RunnerView) (found : Option Slice) → IfSome found (GivesCut old new)
    → IfSome found (λ slice. BeginsApart slice.instant (to_come new (Quiet ∷ [])))
apart_of old new None gives = tt
apart_of old new (Some slice) gives = gives.apart

stays_of : (old new : RunnerView) (found : Option Slice) → IfNone found (GivesNoCut old new) → IfNone found (Stays old new)
stays_of old new None stays = record { idle = stays.idle; position = stays.position; from = stays.from; whole = stays.whole; same = stays.same }
stays_of old new (Some slice) stays = tt

counted_of : (old new : RunnerView) (found : Option Slice) → IfSome found (GivesCut old new) → IfNone found (GivesNoCut old new) → old.cuts ≤ new.cuts
counted_of old new None gives stays = omega (arith, stays.cuts)
counted_of old new (Some slice) gives stays = omega (arith, gives.cut.counted)

-- what the runner's call tells
pub cuts_of : (old new : RunnerView) (found : Option Slice) → IfSome found (GivesCut old new) → IsNone found ↔ HasNoChunk (to_come old (Quiet ∷ []))
    → IfNone found (GivesNoCut old new)
    → KeepsOffers old new → Cuts old new found
cuts_of old new found gives none idle kept = record {
  some = cut_of old new found gives;
  place = stands_of old new found gives;
  apart = apart_of old new found gives;
  drained = none.0;
  idle = stays_of old new found idle;
  drawing = kept.drawing;
  finished = kept.finished;
  piece = kept.piece;
  latest = kept.latest;
  ops = kept.ops;
  counted = counted_of old new found gives idle;
}

cut_count : (n : ℕ) (old new : Bool) → old ≡ false → n + (if new then 0 else 1) ≤ n + (if old then 0 else 1)
cut_count n true new busy = absurd (cc)
cut_count n false true busy = omega arith
cut_count n false false busy = omega arith

-- a core whose busy runner was asked for its next cut
module _ (core : CoreView) (new : RunnerView) (found : Option Slice) where
  abbrev pub after_cut : CoreView
  after_cut = record core { runner = new; found = found }

  module _ (cuts : Cuts core.runner new found) (unfound : core.found ≡ None) (busy : core.runner.idle ≡ false) where
    abbrev came : List Item → List Item
    came items = arrivals_from core.runner.piece.span.stop core.waiting (end_or core.end items)

    -- the remaining output before
    before : (items : List Item) → remaining_output core items ≡ to_come core.runner (came items)
    before items = ap (λ found. found_chunk found ++ to_come core.runner (came items)) unfound

    -- the runner's part of it after
    after : (items : List Item) → to_come new (arrivals_from new.piece.span.stop core.waiting (end_or core.end items)) ≡ to_come new (came items)
    after items = ap (λ piece. to_come new (arrivals_from piece.span.stop core.waiting (end_or core.end items))) cuts.piece

    output : (is : Option Slice) → found ≡ is → (items : List Item) → SameResult
        (found_chunk is ++ to_come new (arrivals_from new.piece.span.stop core.waiting (end_or core.end items))) (remaining_output core items)
    output None is items =
        let idle : Stays core.runner new = subst (λ found. IfNone found (Stays core.runner new)) is cuts.idle in
        same-of _ _ (after items ∙ idle.same (came items) ∙ sym (before items))
    output (Some slice) is items =
        let cut : IsCut core.runner new slice = subst (λ found. IfSome found (IsCut core.runner new)) is cuts.some in
        same-both _ (as_chunk slice ∷ to_come new (came items)) _ (same-of _ _ (ap (λ items. as_chunk slice ∷ items) (after items)))
        (same-both _ (to_come core.runner (came items)) _ (cut-same core.runner new slice cut (came items)) (same-of _ _ (sym (before items))))

    place : (is : Option Slice) → found ≡ is → next_start is new.position ≡ core_position core
    place None is =
        let idle : Stays core.runner new = subst (λ found. IfNone found (Stays core.runner new)) is cuts.idle in
        idle.position ∙ sym (ap (λ found. next_start found core.runner.position) unfound)
    place (Some slice) is =
        let place : Stands core.runner new slice = subst (λ found. IfSome found (Stands core.runner new)) is cuts.place in
        place.starts ∙ sym (ap (λ found. next_start found core.runner.position) unfound)

    -- a piece of which all was given is given up
    gives : (is : Option Slice) → found ≡ is → known_ending new ≡ None → GivesUp core after_cut
    gives None is unknown =
        let idle : Stays core.runner new = subst (λ found. IfNone found (Stays core.runner new)) is cuts.idle in
        let starts : kept_start core ≡ core.runner.piece.span.start = ap (λ idle. if idle then core.runner.piece.span.stop else core.runner.piece.span.start)
        busy in
        let stops : kept_start after_cut ≡ core.runner.piece.span.stop = ap (λ idle. if idle then new.piece.span.stop else new.piece.span.start) idle.idle
        ∙ ap (λ piece. piece.span.stop) cuts.piece in
        let stands : core_position after_cut ≡ core.runner.piece.span.stop = ap (λ found. next_start found new.position) is
        ∙ idle.whole (sym (idle-known new idle.idle) ∙ unknown) in
        let moved : new.position ≡ core.runner.position = idle.position in
        let whole : new.position ≡ core.runner.piece.span.stop = idle.whole (sym (idle-known new idle.idle) ∙ unknown) in
        let from : core.runner.piece.span.start ≤ core.runner.position = idle.from busy in
        record {
          first = span_len core.runner.piece.span ∷ [];
          lens = ap (λ idle. (if idle then [] else span_len core.runner.piece.span ∷ []) ++ map (λ (piece : WaitingPiece). piece.len) core.waiting) busy
              ∙ ap (λ idle. span_len core.runner.piece.span ∷ ((if idle then [] else span_len new.piece.span ∷ [])
              ++ map (λ (piece : WaitingPiece). piece.len) core.waiting)) (sym idle.idle);
          start = omega (arith, starts, stops, moved, whole, from);
          before = λ before. omega (arith, stops, stands);
        }
    gives (Some slice) is unknown =
        let cut : IsCut core.runner new slice = subst (λ found. IfSome found (IsCut core.runner new)) is cuts.some in
        let place : Stands core.runner new slice = subst (λ found. IfSome found (Stands core.runner new)) is cuts.place in
        let starts : kept_start core ≡ core.runner.piece.span.start = ap (λ idle. if idle then core.runner.piece.span.stop else core.runner.piece.span.start)
        busy in
        let starts_still : kept_start after_cut ≡ core.runner.piece.span.start =
        ap (λ idle. if idle then new.piece.span.stop else new.piece.span.start) place.busy ∙ ap (λ piece. piece.span.start) cuts.piece in
        let stands : core_position after_cut ≡ slice.span.start = ap (λ found. next_start found new.position) is in
        let from : core.runner.piece.span.start ≤ slice.span.start = cut.within.from in
        record {
          first = [];
          lens = ap (λ idle. (if idle then [] else span_len core.runner.piece.span ∷ []) ++ map (λ (piece : WaitingPiece). piece.len) core.waiting) busy
              ∙ ap (λ piece. span_len piece.span ∷ map (λ (piece : WaitingPiece). piece.len) core.waiting) (sym cuts.piece)
              ∙ ap (λ idle. (if idle then [] else span_len new.piece.span ∷ []) ++ map (λ (piece : WaitingPiece). piece.len) core.waiting) (sym place.busy);
          start = omega (arith, starts, starts_still);
          before = λ before. omega (arith, starts_still, stands, from);
        }

    pub looked-cut : Looked core after_cut
    looked-cut = record {
      output = output found refl;
      position = place found refl;
      drawing = cuts.drawing;
      ops = cuts.ops;
      end = refl;
      ended = refl;
      bytes = refl;
      latest = refl;
      waiting = ([], refl);
      count = cut_count (length core.waiting) core.runner.idle new.idle busy;
      cuts = cuts.counted;
      finished = cuts.finished;
      unknown = λ none. busy-unknown core.runner busy;
      given_up = gives found refl;
    }

    -- a busy runner isn't over
    not_over : IsOver core.runner → ⊥
    not_over over = let both : Some over.last ≡ None = sym over.known ∙ busy-unknown core.runner busy in cc

    total : (core.runner.piece.span.stop + total_len core.waiting ≡ core.bytes) ⊎ IsOver core.runner
        → (new.piece.span.stop + total_len core.waiting ≡ core.bytes) ⊎ IsOver new
    total (inl all) = inl (ap (λ piece. piece.span.stop + total_len core.waiting) cuts.piece ∙ all)
    total (inr over) = absurd (not_over over)

    is_found : (core.runner.piece.span.stop + total_len core.waiting ≡ core.bytes) ⊎ IsOver core.runner → (is : Option Slice) → found ≡ is
        → IfSome is (IsFoundSlice new core.bytes)
    is_found whole None is = tt
    is_found (inr over) (Some slice) is = absurd (not_over over)
    is_found (inl all) (Some slice) is =
        let cut : IsCut core.runner new slice = subst (λ found. IfSome found (IsCut core.runner new)) is cuts.some in
        let place : Stands core.runner new slice = subst (λ found. IfSome found (Stands core.runner new)) is cuts.place in
        record {
          busy = place.busy;
          stands = place.stops;
          within = subst (λ piece. IsWithin piece slice) (sym cuts.piece) cut.within;
          arrived = omega (arith, all, cut.within.to);
          apart = subst (λ found. IfSome found (λ slice. BeginsApart slice.instant (to_come new (Quiet ∷ [])))) is cuts.apart;
        }

    pub IsCore-after_cut : IsCore core → IsCore after_cut
    IsCore-after_cut invariant = record {
      few = omega (arith, looked-cut.count, invariant.few);
      few_bytes = invariant.few_bytes;
      total = total invariant.total;
      timely = subst (λ since. AreTimely since core.waiting (arrived_by core.end core.latest)) (sym cuts.latest) invariant.timely;
      end_passed = invariant.end_passed;
      ended = invariant.ended;
      finished = λ ended none. cuts.finished ∙ invariant.finished ended none;
      found = is_found invariant.total found refl;
    }

    pub drained-cut : found ≡ None → IsDrained after_cut
    drained-cut is =
        let idle : Stays core.runner new = subst (λ found. IfNone found (Stays core.runner new)) is cuts.idle in
        record { idle = idle.idle; none = subst HasNoChunk (sym (idle.same (Quiet ∷ []))) (cuts.drained (subst IsNone (sym is) refl)) }

-- a core whose idle runner took the first waiting piece
module _ (core : CoreView) (new : RunnerView) (piece : WaitingPiece) (rest : List WaitingPiece) where
  abbrev pub after_offer : CoreView
  after_offer = record core { runner = new; waiting = rest }

  pub record Offers : Type 0 where
    pub waiting : core.waiting ≡ piece ∷ rest
    pub unfound : core.found ≡ None
    pub idle : core.runner.idle ≡ true
    pub running : core.runner.ending ≡ None
    pub busy : new.idle ≡ false
    pub position : new.position ≡ core.runner.position
    pub offered : new.piece ≡ next_piece core.runner piece.len piece.instant
    pub latest : new.latest ≡ piece.instant
    pub gives : (items : List Item) → to_come new items ≡ to_come core.runner (as_chunk (next_piece core.runner piece.len piece.instant) ∷ items)
    pub drawing : new.drawing ≡ core.runner.drawing
    pub finished : new.finished ≡ core.runner.finished
    pub cursors : new.cursors ≡ core.runner.cursors
    pub counted : new.cuts ≡ core.runner.cuts

  module _ (offers : Offers) where
    count_offer : (idle old : Bool) → idle ≡ false → old ≡ true → length rest + (if idle then 0 else 1) ≤ length (piece ∷ rest) + (if old then 0 else 1)
    count_offer true old busy idle = absurd (cc)
    count_offer false true busy idle = omega arith
    count_offer false false busy idle = absurd (cc)

    -- the piece is kept still, and is the first one
    gives_offer : GivesUp core after_offer
    gives_offer =
        let len_is : span_len new.piece.span ≡ piece.len = ap (λ piece. span_len piece.span) offers.offered ∙ omega arith in
        let starts : kept_start core ≡ core.runner.piece.span.stop = ap (λ idle. if idle then core.runner.piece.span.stop else core.runner.piece.span.start)
        offers.idle in
        let starts_still : kept_start after_offer ≡ core.runner.piece.span.stop =
        ap (λ idle. if idle then new.piece.span.stop else new.piece.span.start) offers.busy ∙ ap (λ piece. piece.span.start) offers.offered in
        let stands : core_position after_offer ≡ core_position core = ap (λ position. next_start core.found position) offers.position in
        record {
          first = [];
          lens = ap (λ idle. (if idle then [] else span_len core.runner.piece.span ∷ []) ++ map (λ (piece : WaitingPiece). piece.len) core.waiting) offers.idle
              ∙ ap (λ waiting. map (λ (piece : WaitingPiece). piece.len) waiting) offers.waiting
              ∙ ap (λ len. len ∷ map (λ (piece : WaitingPiece). piece.len) rest) (sym len_is)
              ∙ ap (λ idle. (if idle then [] else span_len new.piece.span ∷ []) ++ map (λ (piece : WaitingPiece). piece.len) rest) (sym offers.busy);
          start = omega (arith, starts, starts_still);
          before = λ before. omega (arith, starts, starts_still, stands, before);
        }

    pub looked-offer : Looked core after_offer
    looked-offer = record {
      output = λ items. same-of _ _ (ap (λ rest. found_chunk core.found ++ rest)
          (ap (λ piece. to_come new (arrivals_from piece.span.stop rest (end_or core.end items))) offers.offered
          ∙ offers.gives (arrivals_from (core.runner.piece.span.stop + piece.len) rest (end_or core.end items))
          ∙ sym (ap (λ waiting. to_come core.runner (arrivals_from core.runner.piece.span.stop waiting (end_or core.end items))) offers.waiting)));
      position = ap (λ position. next_start core.found position) offers.position;
      drawing = offers.drawing;
      ops = ap ops_of offers.cursors;
      end = refl;
      ended = refl;
      bytes = refl;
      latest = refl;
      waiting = (piece ∷ [], offers.waiting);
      count = subst (λ waiting. length rest + (if new.idle then 0 else 1) ≤ length waiting + (if core.runner.idle then 0 else 1)) (sym offers.waiting)
          (count_offer new.idle core.runner.idle offers.busy offers.idle);
      cuts = omega (arith, offers.counted);
      finished = offers.finished;
      unknown = λ none. idle-known core.runner offers.idle ∙ offers.running;
      given_up = λ none. gives_offer;
    }

    total_offer : (core.runner.piece.span.stop + total_len core.waiting ≡ core.bytes) ⊎ IsOver core.runner
        → (new.piece.span.stop + total_len rest ≡ core.bytes) ⊎ IsOver new
    total_offer (inl all) =
        let stop : new.piece.span.stop ≡ core.runner.piece.span.stop + piece.len = ap (λ piece. piece.span.stop) offers.offered in
        let split : total_len core.waiting ≡ piece.len + total_len rest = ap total_len offers.waiting in
        inl (omega (arith, all, stop, split))
    total_offer (inr over) = absurd (let both : Some over.last ≡ None = sym over.known ∙ idle-known core.runner offers.idle ∙ offers.running in cc)

    pub IsCore-after_offer : IsCore core → IsCore after_offer
    IsCore-after_offer invariant = record {
      few = omega (arith, looked-offer.count, invariant.few);
      few_bytes = invariant.few_bytes;
      total = total_offer invariant.total;
      timely = subst (λ since. AreTimely since rest (arrived_by core.end core.latest)) (sym offers.latest)
          (subst (λ waiting. AreTimely core.runner.latest waiting (arrived_by core.end core.latest)) offers.waiting invariant.timely).2;
      end_passed = invariant.end_passed;
      ended = invariant.ended;
      finished = λ ended none. offers.finished ∙ invariant.finished ended none;
      found = subst (λ found. IfSome found (IsFoundSlice new core.bytes)) (sym offers.unfound) tt;
    }

-- a core whose idle runner refused the first waiting piece
module _ (core : CoreView) (piece : WaitingPiece) (rest : List WaitingPiece) (fault : ArrivalFault) where
  abbrev pub after_refusal : CoreView
  after_refusal = record core { waiting = rest }

  module _ (invariant : IsCore core) (idle : core.runner.idle ≡ true) (waiting : core.waiting ≡ piece ∷ rest)
      (refused : offer_answer core.runner piece.len piece.instant ≡ Err fault) where
    timely : AreTimely core.runner.latest (piece ∷ rest) (arrived_by core.end core.latest)
    timely = subst (λ waiting. AreTimely core.runner.latest waiting (arrived_by core.end core.latest)) waiting invariant.timely

    over_by : (core.runner.piece.span.stop + total_len core.waiting ≡ core.bytes) ⊎ IsOver core.runner → IsOver core.runner
    over_by (inl all) =
        let split : total_len core.waiting ≡ piece.len + total_len rest = ap total_len waiting in
        refused-over core.runner piece.len piece.instant fault idle timely.0 timely.1 (omega (arith, all, split, invariant.few_bytes)) refused
    over_by (inr over) = over

    pub looked-refusal : Looked core after_refusal
    looked-refusal = record {
      output = λ items. same-of _ _ (ap (λ rest. found_chunk core.found ++ rest) (over-same core.runner (over_by invariant.total) _ _));
      position = refl;
      drawing = refl;
      ops = refl;
      end = refl;
      ended = refl;
      bytes = refl;
      latest = refl;
      waiting = (piece ∷ [], waiting);
      count = let more : length core.waiting ≡ length (piece ∷ rest) = ap length waiting in omega (arith, more);
      cuts = omega arith;
      finished = refl;
      unknown = λ none. none;
      given_up = λ none. absurd (let over = over_by invariant.total in let both : Some over.last ≡ None = sym over.known ∙ none in cc);
    }

    pub IsCore-after_refusal : IsCore after_refusal
    IsCore-after_refusal = record {
      few = omega (arith, looked-refusal.count, invariant.few);
      few_bytes = invariant.few_bytes;
      total = inr (over_by invariant.total);
      timely = timely-earlier core.runner.latest piece.instant (arrived_by core.end core.latest) rest timely.0 timely.2;
      end_passed = invariant.end_passed;
      ended = invariant.ended;
      finished = invariant.finished;
      found = invariant.found;
    }
