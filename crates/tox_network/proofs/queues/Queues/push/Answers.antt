-- The list of the queue got an item at its end.
use Rattle.std.proofs.Common.{◌++◌, ◌∷◌, [], sym, ap}
use Rattle.tox_network.proofs.Replaced.{lists_replaced}
use Rattle.tox_network.proofs.queues.Queues.push.Goals as goal

pub returns-clause-pushed : goal.returns-clause-pushed
returns-clause-pushed c =
    lists_replaced (λ queue. queue.items) c.self.inside.queues.items c.args.place c.index_mut-queue.result.now c.push_back_reserved.new.self
    c.args.self.now.lists (λ items. items ++ c.args.item ∷ [])
    (sym (ap (λ v. v.lists) c.self.view_is)) c.requires.place c.index_mut-queue.ensures.value c.push_back_reserved.ensures.items
