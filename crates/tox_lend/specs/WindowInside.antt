-- What the fields of a window keep.
use Rattle.std.specs.Prelude.{◌≤◌, length}
use Rattle.std.specs.VecDeque.{deque_capacity}
use Rattle.tox_lend.specs.Window.{JoinUpTo, Pieces}
use Rattle.tox_lend.specs.declared.window.Window.TheInside.{Inside}

abbrev pub pieces_seen : Inside → Pieces
pieces_seen w = record { held = w.held.items; room = w.room; stop = w.stop }

-- joined pieces, no more than there is room for, and the room is reserved
pub record KeepsWindow (w : Inside) : Type 0 where
  pub joined : JoinUpTo w.stop w.held.items
  pub few : length w.held.items ≤ w.room
  pub reserved : w.room ≤ deque_capacity w.held
