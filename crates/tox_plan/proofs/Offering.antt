-- A runner after an accepted offer.
use Rattle.std.proofs.Common.{◌≡◌, ℕ, ◌<◌, ◌≤◌, ◌+◌, ◌*◌, ◌^◌, true, false, List, ◌∷◌, length, None, refl, ap, ◌∙◌, sym, subst, arith}
use Rattle.std.specs.Prelude.{is_some, IsSome, IfSome}
use Rattle.tox_time.specs.declared.streams.item.Item.{Item}
use Rattle.tox_words.specs.Draw.{draws_of}
use Rattle.tox_defs.specs.operations.Look.{as_chunk}
use Rattle.tox_plan.specs.OpCursors.{AreDrained}
use Rattle.tox_plan.specs.RunnerView.{RunnerView, IsRunning, IsFound, to_come, reader_at, next_piece, with_offer}
use Rattle.tox_plan.proofs.CursorLemmas.{nested-longer, drained-at, drained-offered}
use Rattle.tox_plan.proofs.RunnerOutput.{to_come-unfound, idle-unfound, idle-drained}

-- a runner after an offer
module _ (old : RunnerView) (len instant : ℕ) where
  module _ (invariant : IsRunning old) (idle : old.idle ≡ true) (none : old.ending ≡ None) where
    unfound : old.lookahead ≡ None
    unfound = idle-unfound old invariant idle

    drained : AreDrained old.position old.cursors old.piece
    drained = idle-drained old invariant idle none

    pub IsRunning-after_offer : 0 < len → old.piece.span.stop + len ≤ 2 ^ 40 → IsRunning (with_offer old len instant)
    IsRunning-after_offer some few =
        let known : IsSome old.ending → ⊥ = (λ some. let open_yet : is_some old.ending ≡ false = ap is_some none in absurd (cc)) in
        let at : old.piece.span.stop ≡ old.position = drained-at old.position old.cursors old.piece drained in
        let counted : 0 + old.turns ≤ length old.cursors * (old.cuts + old.pieces) = rw (unfound, invariant.idle idle) at invariant.counted in
        let cuts_looked : 0 < length old.cursors → old.cuts + 0 ≤ old.turns = rw unfound at invariant.looked in
        record {
          nested = λ _. nested-longer (reader_at old.position old.lookahead) old.cursors old.piece (next_piece old len instant) (omega arith)
              (invariant.nested none);
          drained = λ read. absurd (let e : false ≡ true = read in cc);
          found = subst (λ found. IfSome found (IsFound (with_offer old len instant))) (sym unfound) tt;
          unended = invariant.unended;
          ended = λ some. absurd (known some);
          idle = λ idle. absurd (let e : false ≡ true = idle in cc);
          cause = λ some. absurd (known some);
          reported = invariant.reported;
          reached = omega (arith, invariant.reached);
          here = λ busy. omega (arith, at);
          few = few;
          few_cursors = invariant.few_cursors;
          few_cuts = invariant.few_cuts;
          few_pieces = omega (arith, invariant.few_pieces);
          counted = rw unfound (omega (arith, counted));
          looked = λ some. rw unfound (cuts_looked some);
        }

    pub to_come-after_offer : 0 < len → (items : List Item) → to_come (with_offer old len instant) items
        ≡ to_come old (as_chunk (next_piece old len instant) ∷ items)
    to_come-after_offer some items =
        to_come-unfound (with_offer old len instant) items none unfound
        ∙ drained-offered (draws_of old.drawing) old.position old.cursors old.piece (next_piece old len instant) items drained refl (omega arith)
        ∙ sym (to_come-unfound old (as_chunk (next_piece old len instant) ∷ items) none unfound)
