-- What the fields of a queue of lines keep.
use Rattle.std.specs.Prelude.{◌≤◌, length, vec_capacity}
use Rattle.tox_serve.specs.output.LineQueue.{Lines}
use Rattle.tox_serve.specs.declared.output.queue.LineQueue.TheInside.{Inside}

abbrev pub lines_seen : Inside → Lines
lines_seen q = record { bytes = q.bytes.items; dropped = q.dropped }

-- at most 65,536 bytes wait, and room for so many is reserved
pub record KeepsQueue (q : Inside) : Type 0 where
  pub few : length q.bytes.items ≤ 65536
  pub reserved : 65536 ≤ vec_capacity q.bytes
