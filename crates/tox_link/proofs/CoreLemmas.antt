-- A link core before and after a piece or the source's end.
use Rattle.std.proofs.Common.{◌≡◌, ℕ, ◌+◌, ◌<◌, ◌≤◌, ◌^◌, true, false, List, [], ◌∷◌, ◌++◌, length-append, Option, Some, None, refl, ap, ◌∙◌, sym, subst, arith}
use Rattle.std.proofs.Common.{◌⊎◌, inl, inr}
use Rattle.std.specs.Prelude.{IsSome, IfSome}
use Rattle.tox_time.specs.declared.streams.slice.Slice.{Slice}
use Rattle.tox_time.specs.declared.streams.item.Item.{Item}
use Rattle.tox_plan.specs.RunnerView.{RunnerView, to_come, found_chunk}
use Rattle.tox_link.specs.declared.link_core.waiting.WaitingPiece.{WaitingPiece}
use Rattle.tox_link.specs.link_core.Core.{CoreView, kept_count, remaining_output, arrivals_from, end_or}
use Rattle.tox_link.specs.link_core.CoreKept.{IsCore, IsOver, IsFoundSlice, AreTimely, arrived_by, total_len}
use Rattle.tox_link.proofs.WaitingLemmas.{chunk_from, arrivals_from-append, total_len-append, timely-append, timely-later}

-- a source that has not ended keeps no end
pub no_end : (core : CoreView) → IsCore core → core.ended ≡ false → core.end ≡ None
no_end core invariant running = by core.end refl
  where
    by : (end : Option ℕ) → core.end ≡ end → core.end ≡ None
    by None is = is
    by (Some t) is = absurd (let ended : core.ended ≡ true = invariant.ended (subst IsSome (sym is) refl) in let both : true ≡ false = sym ended
        ∙ running in cc)

found-more : (found : Option Slice) (runner : RunnerView) (bytes more : ℕ) → bytes ≤ more → IfSome found (IsFoundSlice runner bytes)
    → IfSome found (IsFoundSlice runner more)
found-more None runner bytes more below is = tt
found-more (Some slice) runner bytes more below is = record {
  busy = is.busy;
  stands = is.stands;
  within = is.within;
  arrived =
      omega (arith, is.arrived, below);
  apart = is.apart;
}

-- a runner that is over gives the same whatever comes
pub over-same : (runner : RunnerView) → IsOver runner → (xs ys : List Item) → to_come runner xs ≡ to_come runner ys
over-same runner over xs ys = over.only xs ∙ sym (over.only ys)

-- a core after an accepted piece
module _ (core : CoreView) (len instant : ℕ) where
  abbrev pub new_piece : WaitingPiece
  new_piece = record { len = len; instant = instant }

  abbrev pub after_piece : CoreView
  after_piece = record core { waiting = core.waiting ++ new_piece ∷ []; bytes = core.bytes + len; latest = instant }

  module _ (invariant : IsCore core) (running : core.ended ≡ false) where
    total : (core.runner.piece.span.stop + total_len core.waiting ≡ core.bytes) ⊎ IsOver core.runner
        → (core.runner.piece.span.stop + total_len (core.waiting ++ new_piece ∷ []) ≡ core.bytes + len) ⊎ IsOver core.runner
    total (inl all) = let more = total_len-append core.waiting new_piece in inl (omega (arith, all, more))
    total (inr over) = inr over

    timely : core.latest ≤ instant → 0 < len → AreTimely core.runner.latest (core.waiting ++ new_piece ∷ []) (arrived_by core.end instant)
    timely later some =
        let none : core.end ≡ None = no_end core invariant running in
        let before : AreTimely core.runner.latest core.waiting core.latest =
        subst (λ end. AreTimely core.runner.latest core.waiting (arrived_by end core.latest)) none invariant.timely in
        subst (λ end. AreTimely core.runner.latest (core.waiting ++ new_piece ∷ []) (arrived_by end instant)) (sym none)
        (timely-append core.runner.latest core.latest core.waiting new_piece before later some)

    pub IsCore-after_piece : kept_count core < 1024 → core.latest ≤ instant → 0 < len → core.bytes + len ≤ 2 ^ 40 → IsCore after_piece
    IsCore-after_piece room later some few = record {
      few = let more = length-append core.waiting (new_piece ∷ []) in omega (arith, room, more);
      few_bytes = few;
      total = total invariant.total;
      timely = timely later some;
      end_passed = subst (λ end. arrived_by end instant ≤ instant) (sym (no_end core invariant running)) (omega arith);
      ended = invariant.ended;
      finished = invariant.finished;
      found = found-more core.found core.runner core.bytes (core.bytes + len) (omega arith) invariant.found;
    }

    pub output-after_piece : (items : List Item) → remaining_output after_piece items ≡ remaining_output core (chunk_from core.bytes new_piece ∷ items)
    output-after_piece items = ap (λ rest. found_chunk core.found ++ rest) (by invariant.total)
      where
        none : core.end ≡ None
        none = no_end core invariant running

        by : (core.runner.piece.span.stop + total_len core.waiting ≡ core.bytes) ⊎ IsOver core.runner
            → to_come core.runner (arrivals_from core.runner.piece.span.stop (core.waiting ++ new_piece ∷ []) (end_or core.end items))
            ≡ to_come core.runner (arrivals_from core.runner.piece.span.stop core.waiting (end_or core.end (chunk_from core.bytes new_piece ∷ items)))
        by (inr over) = over-same core.runner over _ _
        by (inl all) = ap (to_come core.runner)
            (arrivals_from-append core.runner.piece.span.stop core.waiting new_piece (end_or core.end items)
            ∙ ap (λ at. arrivals_from core.runner.piece.span.stop core.waiting (chunk_from at new_piece ∷ end_or core.end items)) all
            ∙ ap (λ end. arrivals_from core.runner.piece.span.stop core.waiting (chunk_from core.bytes new_piece ∷ end_or end items)) none
            ∙ sym (ap (λ end. arrivals_from core.runner.piece.span.stop core.waiting (end_or end (chunk_from core.bytes new_piece ∷ items))) none))

-- a core that keeps the source's end
module _ (core : CoreView) (end : ℕ) where
  abbrev pub after_end : CoreView
  after_end = record core { end = Some end; ended = true; latest = end }

  pub IsCore-after_end : IsCore core → core.ended ≡ false → core.latest ≤ end → IsCore after_end
  IsCore-after_end invariant running later =
      let before : AreTimely core.runner.latest core.waiting core.latest
      = subst (λ end. AreTimely core.runner.latest core.waiting (arrived_by end core.latest)) (no_end core invariant running) invariant.timely in
      record {
        few = invariant.few;
        few_bytes = invariant.few_bytes;
        total = invariant.total;
        timely = timely-later core.runner.latest core.latest end core.waiting later before;
        end_passed = omega arith;
        ended = λ some. refl;
        finished = λ ended none. absurd (cc);
        found = invariant.found;
      }

-- a core at a later instant
pub IsCore-later : (core : CoreView) (now : ℕ) → IsCore core → core.latest ≤ now → IsCore (record core { latest = now })
IsCore-later core now invariant later = record {
  few = invariant.few;
  few_bytes = invariant.few_bytes;
  total = invariant.total;
  timely = (by core.end invariant.timely invariant.end_passed).0;
  end_passed = (by core.end invariant.timely invariant.end_passed).1;
  ended = invariant.ended;
  finished = invariant.finished;
  found = invariant.found;
}
  where
    by : (end : Option ℕ) → AreTimely core.runner.latest core.waiting (arrived_by end core.latest) → arrived_by end core.latest ≤ core.latest
        → AreTimely core.runner.latest core.waiting (arrived_by end now) × (arrived_by end now ≤ now)
    by None timely passed = (timely-later core.runner.latest core.latest now core.waiting later timely, omega arith)
    by (Some t) timely passed = (timely, omega (arith, passed, later))
