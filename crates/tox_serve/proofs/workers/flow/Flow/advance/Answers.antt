-- A direction that goes on is ready again.
use Rattle.tox_serve.proofs.workers.ReadyLemmas.{fault-of, instant-of, unlimited-of}
use Rattle.tox_serve.proofs.workers.flow.Flow.advance.Goals as goal

pub invariant_of-waiting : goal.invariant_of-waiting
invariant_of-waiting g c = let ready = c.drive.ensures.ready in record {
  held = ready.held;
  read = instant-of _ ready.read;
  begun = ready.begun;
  readable = ready.working;
  failed = fault-of _ _ ready.cause;
  unlimited = unlimited-of _ _ ready.cause;
  writable = rw c.if-fail_if_aborted.ensures c.in-Ok-Waits.ensures.working;
}

pub invariant_of-flow : goal.invariant_of-flow
invariant_of-flow g c = let ready = c.drive.ensures.ready in record {
  held = ready.held;
  read = instant-of _ ready.read;
  begun = ready.begun;
  readable = ready.working;
  failed = fault-of _ _ ready.cause;
  unlimited = unlimited-of _ _ ready.cause;
  writable = c.in-Ok-Again.ensures.working;
}
