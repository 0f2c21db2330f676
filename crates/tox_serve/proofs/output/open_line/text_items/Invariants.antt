-- The first items.
use Rattle.std.proofs.Common.{◌≡◌, length, take}
use Rattle.tox_serve.specs.output.OpenLine.{text_items}
use Rattle.tox_serve.proofs.output.open_line.text_items.Given as goal

abbrev pub invariant-loop-text : goal.invariant-loop-text
invariant-loop-text l = record {
  long : length l.items.items ≡ l.text-index;
  made : l.items.items ≡ text_items (take l.text-index l.texts);
}
