-- Behind the source's end the ending is known.
use Rattle.std.proofs.Common.{rules}
use Rattle.tox_time.specs.declared.streams.item.Item.TheVariants.{Closed}
use Rattle.tox_runs.proofs.CutLemmas.{HasTaken, MayComeNext-next}
use Rattle.tox_runs.proofs.runs.runner_slices.RunnerSliceSource.end.Goals as goal

pub returns-clause-stands : goal.returns-clause-stands
returns-clause-stands c =
    λ at.
    let taken : HasTaken c.finish.new.self (Closed c.args.instant) = record { latest = λ since. search rules; stands = λ none. search rules } in
    MayComeNext-next c.args.self.now c.finish.new.self (Closed c.args.instant) at.later at.before (search rules) taken
