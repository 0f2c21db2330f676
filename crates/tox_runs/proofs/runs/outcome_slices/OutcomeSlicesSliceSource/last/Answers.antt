-- Behind all arrivals no slice is left.
use Rattle.std.proofs.Common.{ap}
use Rattle.tox_runs.specs.runs.OutcomeSlices.{pending_text}
use Rattle.tox_runs.proofs.OutcomeLemmas.{none_pending}
use Rattle.tox_runs.proofs.runs.outcome_slices.OutcomeSlicesSliceSource.last.Goals as goal

pub returns : goal.returns
returns c =
    λ at.
    ap (λ slices. pending_text at.arrived c.args.self.now.position slices c.args.self.now.ending.now)
    (none_pending at.arrived at.position c.args.self.now.position c.args.self.now.left.now at.behind)
