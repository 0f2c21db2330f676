use Rattle.std.proofs.Common.{◌≡◌, replicate}
use Rattle.tox_check.specs.forecast.Tally.{no_counts}
use Rattle.tox_check.proofs.forecast.tally.tallies_of.Given as goal

abbrev pub invariant-loop : goal.invariant-loop
invariant-loop l = l.tallies.items ≡ replicate l.counter no_counts
