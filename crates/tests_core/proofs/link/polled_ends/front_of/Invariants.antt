-- The buffers so far have no bytes.
use Rattle.std.proofs.Common.{◌≡◌, length, take}
use Rattle.std.specs.Io.Slices.{io_slices_bytes}
use Rattle.tests_core.proofs.link.polled_ends.front_of.Given as goal

abbrev pub invariant-loop-buffer : goal.invariant-loop-buffer
invariant-loop-buffer l = record { none : length (io_slices_bytes (take l.buffer-index l.buffers)) ≡ 0 }
