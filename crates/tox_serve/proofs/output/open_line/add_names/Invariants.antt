-- The first names stand behind the others.
use Rattle.std.proofs.Common.{◌≡◌, false, flat_map, take, ◌++◌}
use Rattle.tox_serve.specs.output.OpenLine.{spaced}
use Rattle.tox_serve.proofs.output.open_line.add_names.Given as goal

abbrev pub invariant-loop-name : goal.invariant-loop-name
invariant-loop-name l = record {
  working : l.line.failed ≡ false;
  added : l.line.bytes.items ≡ l.fn.line.bytes.items ++ flat_map spaced (take l.name-index l.names);
}
