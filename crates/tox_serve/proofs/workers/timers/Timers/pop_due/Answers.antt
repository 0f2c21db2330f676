-- What a pop takes from the heap, it takes from the timers: it is the earliest.
use Rattle.std.proofs.Common.{arith, refl, sym}
use Rattle.std.proofs.lemmas.List.Sorted.{IsPermutation-map}
use Rattle.tox_serve.proofs.workers.TimerLemmas.{none_before, due_by}
use Rattle.tox_serve.proofs.workers.timers.Timers.pop_due.Goals as goal

pub returns-clause-some : goal.returns-clause-some
returns-clause-some c = let s = c.args.self.now in (
  due_by _ c.in-Some.field-0.0 _ _ c.in_ok-next_due.ensures (omega (arith, c.if-branch-now.false))
      (none_before c.in-Some.field-0 _ (c.in-Some.ensures.heap_order s.ordered).1),
  record {
    timer = c.in-Some.field-0.0;
    due_then = refl;
    its_turn = sym c.turn.ensures;
    taken = IsPermutation-map (λ reversed. reversed.0) _ _ c.in-Some.ensures.permutation;
  },
)
