-- The direction ran, and its next drive is scheduled or else its link is broken off.
use Rattle.std.proofs.Common.{inl, inr}
use Rattle.tox_serve.proofs.workers.worker.Worker.run_turn.Goals as goal

pub returns-then-not-schedule-clause-runs : goal.returns-then-not-schedule-clause-runs
returns-then-not-schedule-clause-runs g c = let ran = c.run_direction-answer.ensures in let states = c.if-not-schedule.ensures.states in record {
  driven = c.run_direction-answer.new.self;
  answer = c.run_direction-answer.result;
  runs = ran.runs;
  other = ran.other;
  same = ran.same;
  after = inr (record { up = rw states.0 at c.break_off.ensures.up; down = rw states.1 at c.break_off.ensures.down });
}

pub returns-else-not-schedule-clause-runs : goal.returns-else-not-schedule-clause-runs
returns-else-not-schedule-clause-runs g c = let ran = c.run_direction-answer.ensures in record {
  driven = c.run_direction-answer.new.self;
  answer = c.run_direction-answer.result;
  runs = ran.runs;
  other = ran.other;
  same = ran.same;
  after = inl c.if-not-schedule.ensures.again;
}
