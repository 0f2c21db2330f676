-- Where no operation draws, each does the same for all words.
use Rattle.std.proofs.Common.{◌≡◌, ◌∙◌, ap, sym}
use Rattle.tox_words.specs.Draw.{draw_in}
use Rattle.tox_defs.specs.stage.Reaction.{flow_through}
use Rattle.tox_compile.specs.Drawing.{plan_draws}
use Rattle.tox_compile.proofs.Undrawn.{reactions-undrawn}
use Rattle.tox_compile.proofs.plan.Plan.draws.Goals as goal

pub returns-clause-same : goal.returns-clause-same
returns-clause-same c =
    λ none words other items.
    let lanes = c.args.self.now.lanes in
    let value : c.plan_draws.result ≡ plan_draws c.args.self.now.ops = c.plan_draws.ensures ∙ ap plan_draws c.ops.ensures.value in
    ap (λ reactions. flow_through reactions items)
    (reactions-undrawn (draw_in lanes words) (draw_in lanes other) c.args.self.now.ops c.ops.ensures.plan.operations (sym value ∙ none))
