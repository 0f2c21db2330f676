use Rattle.std.proofs.Common.{◌≤◌, length, take}
use Rattle.std.specs.Io.KnownBytes.{Appends}
use Rattle.toxi.proofs.log_folder.write_counted.Given as goal

abbrev pub invariant-loop : goal.invariant-loop
invariant-loop g l = (l.done ≤ length l.bytes)
    × Appends (g.W.Write.contents l.initial.file) (g.W.Write.contents l.file) (take l.done l.bytes)
