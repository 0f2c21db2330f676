-- The direction ran, and its link is settled.
use Rattle.std.specs.Box.{with_value}
use Rattle.tox_serve.proofs.workers.SettledLemmas.{settled-open}
use Rattle.tox_serve.proofs.workers.worker.Worker.take_turn.Goals as goal

pub returns-in-Some-Open : goal.returns-in-Some-Open
returns-in-Some-Open g c =
    let link = c.in-Some-Open.link in
    let driven = with_value (with_value link c.take_turn.new.self) c.run_turn.new.link in
    settled-open c.args.turn.key link driven _ _ _ _ (rw c.in-Some-Open.field-0-is at c.in-Some-Open.ensures.takes) c.in-Some-Open.ensures.leaves
    (rw c.run_turn.ensures.same at c.settle.ensures.settled) (λ settled. record {
      taken = c.take_turn.new.self;
      takes = rw c.deref_mut.ensures.value at c.take_turn.ensures;
      driven = driven;
      runs = rw (c.settle.ensures.same.0, c.settle.ensures.same.1) (rw c.deref_mut-in-Some-Open.ensures.value at c.run_turn.ensures.runs);
      settled = settled;
    })
