-- What a contract sees of a `LinkCore`, and what its fields keep.
use Rattle.std.specs.Prelude.{◌≡◌, ◌≤◌}
use Rattle.std.specs.VecDeque.{deque_capacity}
use Rattle.tox_link.specs.declared.link_core.LinkCore.TheInside.{Inside}
use Rattle.tox_link.specs.link_core.Core.{CoreView, core_deadline}
use Rattle.tox_link.specs.link_core.CoreKept.{IsCore}

abbrev pub core_view : Inside → CoreView
core_view inside = record {
  runner = inside.runner;
  waiting = inside.waiting.items;
  found = inside.found;
  end = inside.end;
  ended = inside.so_far.ended;
  bytes = inside.so_far.position;
  latest = inside.so_far.latest;
  room = 1024;
}

pub record IsKept (inside : Inside) : Type 0 where
  pub core : IsCore (core_view inside)
  pub room : 1024 ≤ deque_capacity inside.waiting
  pub deadline : inside.deadline ≡ core_deadline (core_view inside)
