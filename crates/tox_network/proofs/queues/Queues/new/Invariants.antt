-- So many empty queues so far, each with the room.
use Rattle.std.proofs.Common.{◌≡◌, replicate, [], map, deque_capacity}
use Rattle.std.specs.List.{All}
use Rattle.tox_network.proofs.queues.Queues.new.Given as goal

abbrev pub invariant-loop : goal.invariant-loop
invariant-loop l = record {
  empty : map (λ queue. queue.items) l.queues.items ≡ replicate l.counter [];
  room : All (λ queue. deque_capacity queue ≡ l.room) l.queues.items;
}
