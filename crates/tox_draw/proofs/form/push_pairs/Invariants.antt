-- What the pairs so far added, and what the others add.
use Rattle.std.proofs.Common.{◌≡◌, ◌++◌, codes, drop, map, string_bytes}
use Rattle.std.specs.List.{zip}
use denote.Text.{Utf8}
use denote.Shadow.{shadow}
use Rattle.tox_draw.specs.Forms.{pairs}
use Rattle.tox_draw.proofs.form.push_pairs.Given as goal

abbrev pub invariant-loop-place : goal.invariant-loop-place
invariant-loop-place l =
    shadow (Utf8 l.mark)
    × (string_bytes l.text ++ pairs l.mark (zip (map (λ attribute. attribute.name.now) (drop l.place l.attributes)) (drop l.place l.values)) l.toxicity
    ≡ string_bytes l.fn.text ++ pairs (codes ":") (zip (map (λ attribute. attribute.name.now) l.attributes) l.values) l.toxicity)
