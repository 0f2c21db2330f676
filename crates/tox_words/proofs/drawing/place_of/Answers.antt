-- Reckoned within the table, the place is the same.
use Rattle.std.proofs.Common.{◌∙◌, ap, ◌+◌, ◌*◌, ◌%◌}
use Rattle.tox_words.proofs.Turns.{reduced_place}
use Rattle.tox_words.proofs.drawing.place_of.Goals as goal

pub returns : goal.returns
returns c =
    reduced_place c.args.len c.count-count.result c.args.lane c.args.j
    ∙ ap (λ lanes. (c.args.lane + lanes * c.args.j) % c.args.len) c.count-count.ensures
