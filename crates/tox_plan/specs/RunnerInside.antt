-- What a contract sees of a `Runner`, and what its fields keep.
use Rattle.tox_plan.specs.declared.runner.Runner.TheInside.{Inside}
use Rattle.tox_plan.specs.Phase.{phase_view}
use Rattle.tox_plan.specs.RunnerView.{RunnerView, IsRunning}

abbrev pub runner_view : Inside → RunnerView
runner_view runner = record {
  cursors = runner.cursors.items;
  drawing = runner.drawing;
  position = runner.position;
  piece = runner.piece;
  latest = runner.latest;
  lookahead = runner.lookahead;
  drained = (phase_view runner.phase).drained;
  ending = (phase_view runner.phase).ending;
  finished = (phase_view runner.phase).finished;
  idle = (phase_view runner.phase).idle;
  turns = runner.looks.turns;
  ended = runner.looks.ended;
  cuts = runner.cuts;
  pieces = runner.pieces;
}

abbrev pub KeepsRunner : Inside → Type 0
KeepsRunner runner = IsRunning (runner_view runner)
