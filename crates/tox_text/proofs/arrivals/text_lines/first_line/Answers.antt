-- The text is cut at its first line feed.
use Rattle.std.proofs.Common.{◌+◌, ◌∷◌, take, ap, sym, ◌∙◌}
use Rattle.std.proofs.lemmas.List.{take_rest}
use Rattle.tox_text.specs.arrivals.ArrivalsText.{lines_of}
use Rattle.tox_text.proofs.FirstLines.{lines_of-first, lines_of-one}
use Rattle.tox_text.proofs.arrivals.text_lines.first_line.Goals as goal

pub returns-in-Some-clause-lines : goal.returns-in-Some-clause-lines
returns-in-Some-clause-lines c =
    lines_of-first c.args.text.now c.in-Some.place c.in-Some.ensures.0 c.in-Some.ensures.1
    ∙ ap (λ rest. take c.in-Some.place c.args.text.now ∷ lines_of rest) (sym (take_rest c.args.text.now (c.in-Some.place + 1)))

pub returns-in-None-clause-lines : goal.returns-in-None-clause-lines
returns-in-None-clause-lines c = lines_of-one c.args.text.now c.in-None.ensures
