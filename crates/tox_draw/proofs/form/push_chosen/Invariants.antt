-- What the toxics so far added, and what the others add.
use Rattle.std.proofs.Common.{◌≡◌, ◌++◌, codes, drop, string_bytes}
use denote.Text.{Utf8}
use denote.Shadow.{shadow}
use Rattle.tox_words.specs.Draw.{draws_of}
use Rattle.tox_draw.specs.Forms.{chosen_forms}
use Rattle.tox_draw.proofs.form.push_chosen.Given as goal

abbrev pub invariant-loop-place : goal.invariant-loop-place
invariant-loop-place l =
    shadow (Utf8 l.mark)
    × (string_bytes l.text ++ chosen_forms (draws_of l.drawing) l.applied l.mark l.place (drop l.place l.entries)
    ≡ string_bytes l.fn.text ++ chosen_forms (draws_of l.drawing) l.applied (codes "") 0 l.entries)
