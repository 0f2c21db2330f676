-- The names of the applied ones of the first toxics.
use Rattle.std.proofs.Common.{◌≡◌, ◌≤◌, flat_map, length, map, take}
use Rattle.std.specs.List.{enumerate_from, zip}
use Rattle.std.specs.Prelude.{string_bytes}
use Rattle.tox_words.specs.Draw.{draws_of}
use Rattle.tox_serve.specs.output.OpenLine.{applied_name}
use Rattle.tox_serve.proofs.output.open_line.applied_names.Given as goal

abbrev pub invariant-loop-place : goal.invariant-loop-place
invariant-loop-place l = record {
  few : length l.applied.items ≤ l.place;
  inside : l.place ≤ length l.entries;
  made : map (λ name. name.now) l.applied.items
      ≡ flat_map (applied_name (draws_of l.drawing)) (take l.place (enumerate_from 0 (zip l.entries (map string_bytes l.names))));
}
