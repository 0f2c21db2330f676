-- What a link core answers, by what is left.
use Rattle.std.proofs.Common.{◌≡◌, ◌≢◌, ℕ, ◌<◌, ◌≤◌, true, List, [], ◌∷◌, ◌++◌, length, append_assoc, Some, None, refl, ap, ◌∙◌, sym, subst, arith}
use Rattle.std.proofs.Common.{if◌then◌else◌}
use Rattle.std.specs.Prelude.{IsSome, slice_get}
use Rattle.tox_time.specs.declared.streams.item.Item.{Item}
use Rattle.tox_time.specs.declared.streams.item.Item.TheVariants.{Closed, Quiet}
use Rattle.tox_time.specs.declared.streams.ending.Ending.{Ending}
use Rattle.tox_time.specs.declared.streams.ending.Ending.TheVariants.{StillOpen}
use Rattle.tox_time.specs.streams.Stream.{IsStreamFrom}
use Rattle.tox_time.specs.streams.Table.{ending, final_of}
use Rattle.tox_compile.specs.Meaning.{deadline_of}
use Rattle.tox_plan.specs.OpCursors.{ops_of}
use Rattle.tox_plan.specs.RunnerView.{to_come, found_chunk, known_ending}
use Rattle.tox_plan.specs.Unended.{IsBeforeDeadline, IsOpenAt, IsUnended}
use Rattle.tox_plan.proofs.RunnerOutput.{final-no_chunk, no_chunk-table}
use Rattle.tox_link.specs.declared.link_core.waiting.WaitingPiece.{WaitingPiece}
use Rattle.tox_link.specs.link_core.Core.{CoreView, KeepsCore, Looked, IsEmptied, Settled, remaining_output, arrivals_from, end_or, next_instant, core_ending}
use Rattle.tox_link.specs.link_core.Core.{ending_behind, core_deadline}
use Rattle.tox_link.specs.link_core.CoreKept.{IsCore}
use Rattle.tox_link.proofs.Looks.{same-of}

-- the remaining output of a core that keeps nothing
pub output-emptied : (core : CoreView) → IsEmptied core → core.end ≡ None → (items : List Item) → remaining_output core items ≡ to_come core.runner items
output-emptied core emptied none items =
    ap (λ found. found_chunk found ++ to_come core.runner (arrivals_from core.runner.piece.span.stop core.waiting (end_or core.end items))) emptied.found
    ∙ ap (λ waiting. to_come core.runner (arrivals_from core.runner.piece.span.stop waiting (end_or core.end items))) emptied.waiting
    ∙ ap (λ end. to_come core.runner (end_or end items)) none

-- brings no slice by itself
pub emptied-instant : (core : CoreView) → IsEmptied core → core.end ≡ None → next_instant (remaining_output core (Quiet ∷ [])) ≡ None
emptied-instant core emptied none =
    ap next_instant (output-emptied core emptied none (Quiet ∷ [])) ∙ ap (λ ts. slice_get ts 0)
    (no_chunk-table (to_come core.runner (Quiet ∷ [])) emptied.drained.none)

-- so it hasn't ended while its runner hasn't
pub emptied-unended : (core : CoreView) (now : ℕ) → IsEmptied core → core.end ≡ None → IsUnended (ops_of core.runner.cursors) (to_come core.runner) now
    → IsUnended (ops_of core.runner.cursors) (remaining_output core) now
emptied-unended core now emptied none unended = record {
  quiet = subst (λ items. IsOpenAt now (ending items)) (sym (output-emptied core emptied none (Quiet ∷ []))) unended.quiet;
  closed = λ closes. subst (λ items. ending items ≢ StillOpen) (sym (output-emptied core emptied none (Closed now ∷ []))) (unended.closed closes);
}

-- while a piece waits no ending is known
pub waits-unknown : (core : CoreView) (last : Ending) → 0 < length core.waiting → core_ending core ≡ Some last → ⊥
waits-unknown core last waits known = by core.waiting waits known
  where
    by : (waiting : List WaitingPiece) → 0 < length waiting → ending_behind waiting (known_ending core.runner) ≡ Some last → ⊥
    by [] waits known = absurd (omega (arith, waits))
    by (piece ∷ pieces) waits known = absurd (cc)

-- nor where the runner knows none
pub unknown-runner : (core : CoreView) → known_ending core.runner ≡ None → core_ending core ≡ None
unknown-runner core unknown = by core.waiting
  where
    by : (waiting : List WaitingPiece) → ending_behind waiting (known_ending core.runner) ≡ None
    by [] = unknown
    by (piece ∷ pieces) = refl

-- an emptied core before its deadline stays as it is, while its source goes on and its runner knows no ending
pub settled-still : (core : CoreView) (now : ℕ) → IsCore core → IsEmptied core → core.end ≡ None → (core.runner.idle ≡ true → core.runner.finished ≡ true → ⊥)
    → IsBeforeDeadline now (core_deadline core)
    → (core.runner.idle ≡ true → (t : ℕ) → IsBeforeDeadline t (core_deadline core) → IsUnended (ops_of core.runner.cursors) (to_come core.runner) t)
    → Settled core core now
settled-still core now invariant emptied none going before unended = record {
  leaves = record { output = λ position since items later stream. same-of _ _ refl; position = refl };
  emptied = emptied;
  drawing = refl;
  piece = refl;
  ops = refl;
  ended = refl;
  bytes = refl;
  latest = refl;
  cuts = refl;
  known = λ last is. is;
  reported = λ ended. absurd (going emptied.drained.idle (invariant.finished ended none));
  overdue = λ d due late. absurd (let ahead : now < d = subst (IsBeforeDeadline now) due before in omega (arith, ahead, late));
  unended = λ unknown. emptied-unended core now emptied none (unended emptied.drained.idle now before);
}

-- an emptied core past its deadline
module _ (core : CoreView) (last : Ending) where
  abbrev pub after_quiet : CoreView
  after_quiet = record core { runner = record core.runner { ending = Some last; finished = true } }

  module _ (emptied : IsEmptied core) (none : core.end ≡ None) (unknown : core_ending core ≡ None) where
    pub quiet-ending : core_ending after_quiet ≡ Some last
    quiet-ending =
        ap (λ waiting. core_ending (record after_quiet { waiting = waiting })) emptied.waiting
        ∙ ap (λ idle. if idle then Some last else None) emptied.drained.idle

    quiet-emptied : IsEmptied after_quiet
    quiet-emptied = record { found = emptied.found; waiting = emptied.waiting; drained = record { idle = emptied.drained.idle; none = final-no_chunk last } }

    pub quiet-only : (items : List Item) → remaining_output after_quiet items ≡ final_of last ∷ []
    quiet-only items = output-emptied after_quiet quiet-emptied none items

    pub settled-quiet : (now d : ℕ) → core_deadline core ≡ Some d → d ≤ now
        → ((e position since : ℕ) (items : List Item) → deadline_of (ops_of core.runner.cursors) ≡ Some e → e ≤ since → IsStreamFrom position since items
        → to_come core.runner items ≡ final_of last ∷ [])
        → Settled core after_quiet now
    settled-quiet now d is passed same = record {
      leaves = record {
        output = λ position since items later stream. same-of _ _ (quiet-only items
            ∙ sym (same d position since items is (omega (arith, passed, later)) stream) ∙ sym (output-emptied core emptied none items));
        position = refl;
      };
      emptied = quiet-emptied;
      drawing = refl;
      piece = refl;
      ops = refl;
      ended = refl;
      bytes = refl;
      latest = refl;
      cuts = refl;
      known = λ other known. absurd (let both : Some other ≡ None = sym known ∙ unknown in cc);
      reported = λ ended. subst IsSome (sym quiet-ending) refl;
      overdue = λ e due late. subst IsSome (sym quiet-ending) refl;
      unended = λ unknown. absurd (let both : Some last ≡ None = sym quiet-ending ∙ unknown in cc);
    }

-- an answer after a look keeps what both keep
pub keeps-after : (core middle new : CoreView) (now : ℕ) → Looked (record core { latest = now }) middle
    → ((last : Ending) → core_ending core ≡ Some last → core_ending middle ≡ Some last)
    → KeepsCore middle new → KeepsCore core new
keeps-after core middle new now looked known kept = record {
  drawing = kept.drawing ∙ looked.drawing;
  ops = kept.ops ∙ looked.ops;
  ended = kept.ended ∙ looked.ended;
  bytes = kept.bytes ∙ looked.bytes;
  waiting = (
    looked.waiting.0 ++ kept.waiting.0,
    looked.waiting.1 ∙ ap (λ rest. looked.waiting.0 ++ rest) kept.waiting.1
        ∙ sym (append_assoc looked.waiting.0 kept.waiting.0 new.waiting),
  );
  count = omega (arith, looked.count, kept.count);
  cuts = omega (arith, looked.cuts, kept.cuts);
  ending = λ last is. kept.ending last (known last is);
}
