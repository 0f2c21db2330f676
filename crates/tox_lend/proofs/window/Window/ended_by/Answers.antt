-- The stops rise, so the pieces that end by the position come first.
use Rattle.std.proofs.Common.{rules}
use Rattle.std.specs.Prelude.{nat_le}
use Rattle.std.proofs.lemmas.List.Sorted.{IsPartitionPoint-from_clause}
use Rattle.tox_lend.specs.Run.{stop_of}
use Rattle.tox_lend.proofs.WindowLemmas.{ends_first}
use Rattle.tox_lend.proofs.window.Window.ended_by.Goals as goal

pub returns-clause-ended : goal.returns-clause-ended
returns-clause-ended c =
    rw (← c.self.view_is)
    (IsPartitionPoint-from_clause (λ p. nat_le (stop_of p) c.args.position) _ _ c.partition_point.ensures.partitioned
    (ends_first c.self.inside.stop c.args.position c.self.inside.held.items c.self.invariant.joined) (λ a r f called. search (rules, called)))
