-- The list of the queue lost its first item.
use Rattle.std.proofs.Common.{drop, sym, ap}
use Rattle.tox_network.proofs.Replaced.{lists_replaced}
use Rattle.tox_network.proofs.queues.Queues.pop.Goals as goal

pub returns-clause-popped : goal.returns-clause-popped
returns-clause-popped c =
    lists_replaced (λ queue. queue.items) c.self.inside.queues.items c.args.place c.index_mut-queue.result.now c.pop_front.new.self c.args.self.now.lists
    (drop 1)
    (sym (ap (λ v. v.lists) c.self.view_is)) c.requires.place c.index_mut-queue.ensures.value c.pop_front.ensures.rest
