-- What the offered piece brings was to come before it; a piece is refused only once the ending is known.
use Rattle.std.proofs.Common.{◌≡◌, ◌∷◌, rules}
use Rattle.tox_time.specs.streams.Arrivals.{arrival_list}
use Rattle.tox_plan.specs.RunnerView.{to_come}
use Rattle.tox_runs.specs.runs.SecondPass.{chunk_of}
use Rattle.tox_runs.proofs.CutLemmas.{HasTaken, MayComeNext-next, next_for, text_to_come-same}
use Rattle.tox_runs.proofs.Passing.{PrintsDownTo-as}
use Rattle.tox_runs.proofs.runs.runner_slices.RunnerSliceSource.print_piece.Goals as goal

pub returns-in_ok-print_cuts-clause-prints : goal.returns-in_ok-print_cuts-clause-prints
returns-in_ok-print_cuts-clause-prints g c =
    λ at.
    let items = arrival_list at.later in
    let next = next_for c.args.self.now (chunk_of c.args.piece.now) at.later at.before in
    let position : c.offer.new.self.position ≡ c.args.self.now.position = search rules in
    let comes : to_come c.offer.new.self items ≡ to_come c.args.self.now (chunk_of c.args.piece.now ∷ items) = search rules in
    let printed = c.in_ok-print_cuts.ensures.prints at.arrived items at.of in
    PrintsDownTo-as (text_to_come-same at.arrived c.args.self.now c.offer.new.self (chunk_of c.args.piece.now ∷ items) items position comes) printed

pub returns-else-is_ok-clause-stands : goal.returns-else-is_ok-clause-stands
returns-else-is_ok-clause-stands g c =
    λ at.
    let next = next_for c.args.self.now (chunk_of c.args.piece.now) at.later at.before in
    let taken : HasTaken c.offer.new.self (chunk_of c.args.piece.now) = search rules in
    MayComeNext-next c.args.self.now c.offer.new.self (chunk_of c.args.piece.now) at.later at.before (search rules) taken
