-- What the forms so far added, and what the others add.
use Rattle.std.proofs.Common.{◌≡◌, ◌≤◌, ◌++◌, drop, string_bytes}
use Rattle.tox_draw.specs.Headings.{rest, rest_lines, texts_of}
use Rattle.tox_draw.proofs.heading.push_rest.Given as goal

abbrev pub invariant-loop-index : goal.invariant-loop-index
invariant-loop-index l = record {
  low : l.place.line ≤ 2;
  text : string_bytes l.text ++ rest l.place (texts_of (drop l.index l.forms))
      ≡ string_bytes l.fn.text ++ rest l.fn.start (texts_of l.fn.forms);
  lines : rest_lines l.place (texts_of (drop l.index l.forms)) ≡ rest_lines l.fn.start (texts_of l.fn.forms);
}
