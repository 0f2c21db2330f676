-- The chains, streams and kinds of toxicities so far are those of the toxics before the index.
use Rattle.tox_script.proofs.ToxicTurns.{IsReached}
use Rattle.tox_script.proofs.chains.rule_toxics.RuleToxics.read.Given as goal

abbrev pub invariant-loop-index : goal.invariant-loop-index
invariant-loop-index l = IsReached l.settings l.rule l.tables l.index l.chains l.order.items l.decimals.items
