-- An answer is one step of the link.
use Rattle.std.proofs.Common.{sym, ◌∙◌, arith}
use Rattle.tox_link.proofs.Depths.{keeps-after}
use Rattle.tox_link.proofs.SideLemmas.{unknown-before}
use Rattle.tox_link.proofs.StepLemmas.{act-carried}
use Rattle.tox_link.proofs.steps.deciding.decide.Goals as goal

pub returns-clause-carried : goal.returns-clause-carried
returns-clause-carried g c =
    let reported = c.on_clock.ensures in
    act-carried (g.C.Clock.reported c.args.clock.now) c.args.core.now c.on_clock.new.self c.reading-now.result
    (omega (arith, c.reading-now.ensures.later, c.latest.ensures)) c.reading-now.ensures.reported reported.latest reported.kept.bytes
    (λ ended. reported.kept.ended ∙ ended)
    (λ log more none keeps going unknown. keeps-after c.args.core.now c.on_clock.new.self log more none (reported.given_up unknown)
    (keeps (sym reported.kept.ended ∙ going) (unknown-before c.args.core.now c.on_clock.new.self reported.kept unknown)))
    c.on_clock.result reported.output
