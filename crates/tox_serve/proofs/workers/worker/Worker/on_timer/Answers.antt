-- The direction has a turn, and its link is settled.
use Rattle.std.proofs.Common.{refl}
use Rattle.std.specs.Box.{with_value}
use Rattle.tox_serve.proofs.workers.SettledLemmas.{settled-open}
use Rattle.tox_serve.proofs.workers.worker.Worker.on_timer.Goals as goal

pub returns-in-Some-Open : goal.returns-in-Some-Open
returns-in-Some-Open g c =
    let link = c.in-Some-Open.link in
    let given = with_value (with_value link c.disarm.new.self) c.give.new.link in
    settled-open c.args.turn.key link given _ _ _ _ (rw c.in-Some-Open.field-0-is at c.in-Some-Open.ensures.takes) c.in-Some-Open.ensures.leaves
    (rw c.give.ensures.same.0 at c.settle.ensures.settled) (λ settled. record {
      over = c.disarm.new.self;
      disarms = rw c.deref_mut.ensures.value at c.disarm.ensures;
      given = given;
      gives = rw c.settle.ensures.same.1 (rw c.deref_mut-in-Some-Open.ensures.value at c.give.ensures.given);
      settled = settled;
      timers_stay = rw (c.settle.ensures.same.0, c.give.ensures.same.1) refl;
    })
