-- The first rows were counted.
use Rattle.std.proofs.Common.{◌≡◌, ◌≤◌, count_by, take}
use Rattle.tox_draw.specs.pages.Kinds.{has}
use Rattle.tox_draw.proofs.pages.kind.count_of.Given as goal

abbrev pub invariant-loop-row : goal.invariant-loop-row
invariant-loop-row l = record {
  value : l.count ≡ count_by (has l.kind) (take l.row-index l.rows);
  few : l.count ≤ l.row-index;
}
