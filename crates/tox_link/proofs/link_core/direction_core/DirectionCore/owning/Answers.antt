-- Without operations the plan means what arrives.
use Rattle.std.proofs.Common.{sym, ◌∙◌, arith}
use Rattle.std.proofs.lemmas.List.{nil_from_length}
use Rattle.tox_link.proofs.link_core.direction_core.DirectionCore.owning.Goals as goal

pub returns-in-empty-clause-begins : goal.returns-in-empty-clause-begins
returns-in-empty-clause-begins c = c.plain.ensures.begins c.args.plan c.args.words
    (sym c.ops.ensures.value ∙ nil_from_length c.ops.result.now (omega (arith, c.in-empty.len_below)))
