-- Cuts that a runner gives, one after the other.
use Rattle.std.proofs.Common.{◌≡◌, ℕ, ◌<◌, ◌≤◌, ◌+◌, ◌*◌, List, [], ◌∷◌, ◌++◌, map, length, length-append, append_assoc, Some, None, refl, ap, ◌∙◌, sym, subst}
use Rattle.std.proofs.Common.{arith}
use Rattle.tox_time.specs.declared.streams.slice.Slice.{Slice}
use Rattle.tox_time.specs.declared.streams.item.Item.{Item}
use Rattle.tox_defs.specs.operations.Look.{as_chunk}
use Rattle.tox_plan.specs.OpCursors.{AreNested, AreDrained}
use Rattle.tox_plan.specs.RunnerView.{RunnerView, IsRunning, IsFound, to_come, reader_at}
use Rattle.tox_plan.specs.Cuts.{IsCut, IsOneCut, KeepsOffers, Reach}
use Rattle.tox_plan.proofs.CursorLemmas.{nested-below}
use Rattle.tox_plan.proofs.RunnerOutput.{to_come-unfound, to_come-found, found-cut}
use Rattle.tox_plan.proofs.Looking.{round_due-most}
use Rattle.std.proofs.lemmas.List.{map-append}

-- a runner that gives the cut that it found
module _ (old : RunnerView) (cut : Slice) where
  abbrev pub after_given : RunnerView
  after_given = record {
    cursors = old.cursors;
    drawing = old.drawing;
    position = cut.span.stop;
    piece = old.piece;
    latest = old.latest;
    lookahead = None;
    drained = old.drained;
    ending = old.ending;
    finished = old.finished;
    idle = old.idle;
    turns = old.turns;
    ended = old.ended;
    cuts = old.cuts + 1;
    pieces = old.pieces;
  }

  module _ (invariant : IsRunning old) (some : old.lookahead ≡ Some cut) where
    found : IsFound old cut
    found = found-cut old cut invariant some

    nested : AreNested cut.span.stop old.cursors old.piece
    nested = subst (λ found. AreNested (reader_at old.position found) old.cursors old.piece) some (invariant.nested found.running)

    pub IsRunning-after_given : IsRunning after_given
    IsRunning-after_given =
        let counted : 0 + old.turns ≤ length old.cursors * (old.cuts + old.pieces) = rw some at invariant.counted in
        let cuts_looked : 0 < length old.cursors → old.cuts + 1 ≤ old.turns = rw some at invariant.looked in
        let below : cut.span.stop ≤ old.piece.span.stop = nested-below cut.span.stop old.cursors old.piece nested in
        record {
          nested = λ _. nested;
          drained = λ read none. subst (λ found. AreDrained (reader_at old.position found) old.cursors old.piece) some (invariant.drained read none);
          found = tt;
          unended = invariant.unended;
          ended = invariant.ended;
          idle = invariant.idle;
          cause = invariant.cause;
          reported = invariant.reported;
          reached = below;
          here = λ busy. omega (arith, invariant.here busy, found.some);
          few = invariant.few;
          few_cursors = invariant.few_cursors;
          few_cuts = omega (arith, invariant.few_cuts, found.some);
          few_pieces = invariant.few_pieces;
          counted = omega (arith, counted, round_due-most old.drained None (length old.cursors));
          looked = λ some. omega (arith, cuts_looked some);
        }

    pub IsOneCut-after_given : IsOneCut old after_given cut
    IsOneCut-after_given =
        let none : old.ending ≡ None = found.running in
        record {
          begins = found.begins;
          some = omega (arith, found.begins, found.some);
          stands = refl;
          within = record {
            from = omega (arith, invariant.here found.busy, found.begins);
            some = omega (arith, found.begins, found.some);
            to = nested-below cut.span.stop old.cursors old.piece nested;
          };
          gives = λ items. to_come-found old cut items none some ∙ ap (λ items. as_chunk cut ∷ items) (sym (to_come-unfound after_given items none refl));
          counted = refl;
        }

-- cuts at one instant are together a slice
pub Reach-append : (start middle stop instant : ℕ) (xs ys : List Slice) → Reach start middle instant xs → Reach middle stop instant ys
    → Reach start stop instant (xs ++ ys)
Reach-append start middle stop instant [] ys reach others = rw reach others
Reach-append start middle stop instant (x ∷ xs) ys reach others = (reach.0, reach.1, reach.2, Reach-append x.span.stop middle stop instant xs ys reach.3 others)

pub IsCut-one : (old new : RunnerView) (cut : Slice) → IsOneCut old new cut → IsCut old new cut
IsCut-one old new cut one = record {
  within = one.within;
  cuts = cut ∷ [];
  parts = (refl, one.some, refl, refl);
  gives = one.gives;
  counted = one.counted;
}

-- one more cut at the slice's instant makes the slice longer
pub IsCut-longer : (old middle new : RunnerView) (slice : Slice) (stop : ℕ) → IsCut old middle slice → middle.position ≡ slice.span.stop
    → middle.piece ≡ old.piece
    → IsOneCut middle new (record { span = record { start = middle.position; stop = stop }; instant = slice.instant })
    → IsCut old new (record { span = record { start = slice.span.start; stop = stop }; instant = slice.instant })
IsCut-longer old middle new slice stop cut at piece one =
    let last : Slice = record { span = record { start = middle.position; stop = stop }; instant = slice.instant } in
    record {
      within = record {
        from = cut.within.from;
        some = omega (arith, cut.within.some, at, one.some);
        to = subst (λ piece. stop ≤ piece.span.stop) piece one.within.to;
      };
      cuts = cut.cuts ++ last ∷ [];
      parts = Reach-append slice.span.start slice.span.stop stop slice.instant cut.cuts (last ∷ []) cut.parts (at, omega (arith, at, one.some), refl, refl);
      gives = λ items. cut.gives items ∙ ap (λ items. map as_chunk cut.cuts ++ items) (one.gives items)
          ∙ sym (append_assoc (map as_chunk cut.cuts) (as_chunk last ∷ []) (to_come new items))
          ∙ ap (λ given. given ++ to_come new items) (sym (map-append as_chunk cut.cuts (last ∷ [])));
      counted = one.counted ∙ ap (λ n. n + 1) cut.counted ∙ omega (arith, length-append cut.cuts (last ∷ []));
    }

-- a slice stays what it is where nothing more is given
pub IsCut-same : (old middle new : RunnerView) (slice : Slice) → IsCut old middle slice → ((items : List Item) → to_come new items ≡ to_come middle items)
    → new.cuts ≡ middle.cuts → IsCut old new slice
IsCut-same old middle new slice cut same counted = record {
  within = cut.within;
  cuts = cut.cuts;
  parts = cut.parts;
  gives = λ items. cut.gives items ∙ ap (λ items. map as_chunk cut.cuts ++ items) (sym (same items));
  counted = counted ∙ cut.counted;
}

pub keeps-both : (old middle new : RunnerView) → KeepsOffers old middle → KeepsOffers middle new → KeepsOffers old new
keeps-both old middle new first second = record {
  drawing = second.drawing ∙ first.drawing;
  piece = second.piece ∙ first.piece;
  latest = second.latest ∙ first.latest;
  finished = second.finished ∙ first.finished;
  pieces = second.pieces ∙ first.pieces;
  cursors = second.cursors ∙ first.cursors;
  ops = second.ops ∙ first.ops;
}

-- a round of looks for one cut, and for one more
pub one-round : (cursors old new before after : ℕ) → new ≤ old + cursors → after ≡ before + 1 → new + cursors * before ≤ old + cursors * after
one-round cursors old new before after few counted = rw counted (omega (arith, few))

pub more-rounds : (cursors cursors' first old new before middle after : ℕ) → cursors' ≡ cursors → old + cursors * before ≤ first + cursors * middle
    → new ≤ old + cursors' → after ≡ middle + 1
    → new + cursors * before ≤ first + cursors * after
more-rounds cursors cursors' first old new before middle after same rounds few counted = rw counted (omega (arith, same, rounds, few))
