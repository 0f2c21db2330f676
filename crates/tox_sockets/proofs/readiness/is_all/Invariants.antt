-- What is left behind the buffers that were counted.
use Rattle.std.proofs.Common.{◌≡◌, ◌+◌, length, take}
use Rattle.std.specs.Io.Slices.{io_slices_bytes}
use Rattle.tox_sockets.proofs.readiness.is_all.Given as goal

abbrev pub invariant-loop-buffer : goal.invariant-loop-buffer
invariant-loop-buffer l = record { taken : length (io_slices_bytes (take l.buffer-index l.buffers)) + l.left ≡ l.count }
