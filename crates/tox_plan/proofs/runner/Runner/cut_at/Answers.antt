-- Where a look finds no cut, none leaves at the instant.
use Rattle.std.proofs.Common.{◌≡◌, None, [], ◌∷◌, ap, sym, subst, ◌∙◌}
use Rattle.tox_time.specs.declared.streams.item.Item.TheVariants.{Quiet}
use Rattle.tox_plan.specs.RunnerView.{IsRunning, to_come, HasNoChunk}
use Rattle.tox_plan.proofs.Looking.{look-ends, look-none, no_chunk-apart}
use Rattle.tox_plan.proofs.runner.Runner.cut_at.Goals as goal

pub returns-in_err-cut-clause-none : goal.returns-in_err-cut-clause-none
returns-in_err-cut-clause-none c =
    let unfound : c.look.new.self.lookahead ≡ None = ap (λ runner. runner.lookahead) (sym c.self.view_is) ∙ c.in_err-cut.was in
    let none : HasNoChunk (to_come c.look.new.self (Quiet ∷ [])) × HasNoChunk (to_come c.args.self.now (Quiet ∷ [])) =
    look-none c.args.self.now c.look.new.self (subst IsRunning c.self.view_is c.self.invariant) c.look.ensures.found unfound c.look.ensures.to_come in
    rw c.from_residual.ensures
    (record {
      same = c.look.ensures.to_come;
      position = c.look.ensures.same.0;
      cuts = c.look.ensures.same.1;
      apart = no_chunk-apart c.args.instant.now (to_come c.look.new.self (Quiet ∷ [])) none.0;
      ends = look-ends c.look.new.self c.args.instant.now (subst IsRunning c.self.view_is c.self.invariant) c.look.ensures.found unfound;
    })
