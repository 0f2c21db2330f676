-- All arrivals wait.
use Rattle.std.proofs.Common.{arith}
use Rattle.tox_network.proofs.WaitingItems.{all_wait, arrived-arrival_list}
use Rattle.tox_network.proofs.waiting.Waiting.new.Goals as goal

pub returns-clause-all : goal.returns-clause-all
returns-clause-all c = all_wait c.items-items.result.now c.args.arrivals.now c.is_open.result c.items-items.ensures.stored c.is_open.ensures

pub returns-clause-bound : goal.returns-clause-bound
returns-clause-bound c = omega (arith, arrived-arrival_list c.args.arrivals.now, c.items-items.ensures.bound)
