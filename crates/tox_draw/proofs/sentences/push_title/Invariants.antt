-- The first forms were added.
use Rattle.std.proofs.Common.{◌≡◌, ◌++◌, codes, drop, flat_map, string_bytes}
use Rattle.tox_draw.specs.Headings.{texts_of}
use Rattle.tox_draw.specs.Sentences.{title}
use Rattle.tox_draw.proofs.sentences.push_title.Given as goal

abbrev pub invariant-loop-form : goal.invariant-loop-form
invariant-loop-form l =
    string_bytes l.text ++ flat_map (λ next. codes ", then " ++ next) (texts_of (drop l.form-index l.others))
    ≡ string_bytes l.fn.text ++ title (texts_of l.fn.forms)
