-- The steps descend, so those that begin behind the connection come first.
use Rattle.std.proofs.Common.{◌∙◌, rules}
use Rattle.std.specs.Prelude.{◌≡◌, ◌^◌, nat_lt}
use Rattle.std.proofs.lemmas.List.Sorted.{IsPartitionPoint-from_clause}
use Rattle.tox_script.specs.index.Steps.{Descends}
use Rattle.tox_script.proofs.Latest.{later_first}
use Rattle.tox_script.proofs.index.rule_index.RuleIndex.later.Goals as goal

pub returns : goal.returns
returns c =
    let same : c.deref.result.now ≡ c.args.self.now = c.deref.ensures.value ∙ c.self.view_is in
    let down : Descends (2 ^ 64) c.deref.result.now = rw c.deref.ensures.value c.self.invariant in
    rw (← same)
    (IsPartitionPoint-from_clause (λ s. nat_lt c.args.conn s.first) _ _ c.partition_point.ensures.partitioned
    (later_first (2 ^ 64) c.args.conn c.deref.result.now down) (λ a r f called. search (rules, called)))
