-- The core of a plan without operations: a piece is to be written as it came.
use Rattle.std.specs.Prelude.{ℕ, true, List, [], ◌∷◌, Option, Some, None, is_some}
use Rattle.tox_time.specs.declared.streams.ending.Ending.{Ending}
use Rattle.tox_time.specs.declared.streams.ending.Ending.TheVariants.{Closed as ClosedAt}
use Rattle.tox_time.specs.declared.streams.position.StreamPosition.{StreamPosition}
use Rattle.tox_words.specs.declared.lanes.Lanes.TheVariants.{Sixteen}
use Rattle.tox_plan.specs.RunnerView.{RunnerView}
use Rattle.tox_link.specs.declared.link_core.waiting.WaitingPiece.{WaitingPiece}
use Rattle.tox_link.specs.link_core.Core.{CoreView}

-- the source's end, while pieces wait before it
abbrev pub end_behind : List WaitingPiece → Option ℕ → Option ℕ
end_behind [] end = None
end_behind (piece ∷ pieces) end = end

-- the ending, once none does
abbrev pub end_reached : List WaitingPiece → Option ℕ → Option Ending
end_reached [] None = None
end_reached [] (Some t) = Some (ClosedAt t)
end_reached (piece ∷ pieces) end = None

-- a runner without operations that gave all up to a position
abbrev pub plain_runner : ℕ → Option Ending → RunnerView
plain_runner given ending = record {
  cursors = [];
  drawing = record { lanes = Sixteen; words = [] };
  position = given;
  piece = record { span = record { start = 0; stop = given }; instant = 0 };
  latest = 0;
  lookahead = None;
  drained = true;
  ending = ending;
  finished = is_some ending;
  idle = true;
  turns = 0;
  ended = is_some ending;
  cuts = 0;
  pieces = 0;
}

-- the core that gave all up to a position, from which on these pieces wait
abbrev pub plain_core : ℕ → List WaitingPiece → Option ℕ → StreamPosition → CoreView
plain_core given waiting end so_far = record {
  runner = plain_runner given (end_reached waiting end);
  waiting = waiting;
  found = None;
  end = end_behind waiting end;
  ended = so_far.ended;
  bytes = so_far.position;
  latest = so_far.latest;
  room = 4;
}
