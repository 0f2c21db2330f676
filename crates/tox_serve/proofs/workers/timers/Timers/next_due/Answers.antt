-- The first of a heap in order is the earliest.
use Rattle.std.proofs.Common.{refl}
use Rattle.tox_serve.proofs.workers.TimerLemmas.{none_before, first_among}
use Rattle.tox_serve.proofs.workers.timers.Timers.next_due.Goals as goal

pub returns-in-Some : goal.returns-in-Some
returns-in-Some c = let s = c.args.self.now in record {
  timer = c.in-Some.field-0.now.0;
  its = refl;
  among = first_among _ _ c.in-Some.ensures.item.0 c.in-Some.ensures.lookup;
  first = none_before c.in-Some.field-0.now _ (c.in-Some.ensures.greatest s.ordered);
}
