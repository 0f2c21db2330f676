-- The moves of a network: which are possible, and what each one changes.
use Rattle.std.specs.Prelude.{ℕ, ◌+◌, ◌==◌, List, [], ◌∷◌, ◌++◌, length, take, nat_lt, if◌then◌else◌, Option, Some, None, slice_get, slice_set}
use Rattle.std.specs.Option.{option_and_then}
use Rattle.tox_time.specs.declared.streams.item.Item.{Item}
use Rattle.tox_defs.specs.stage.Reaction.{react}
use Rattle.tox_network.specs.declared.moves.Move.{Move}
use Rattle.tox_network.specs.declared.moves.Move.TheVariants.{Arrive, Take, Put, Deliver}
use Rattle.tox_network.specs.NetworkState.{NetworkState, StageState, queue, unsent_at}

-- the queues with other items in queue k
abbrev pub with_queue : NetworkState → ℕ → List Item → List (List Item)
with_queue n k items = slice_set n.queues k items

-- the queues with one more item at the end of queue k, if that has room
abbrev pub entered : ℕ → NetworkState → ℕ → Item → Option (List (List Item))
entered cap n k item =
    if nat_lt (length (queue n k)) cap then Some (with_queue n k (queue n k ++ item ∷ [])) else None

-- the first of these arrivals enters queue 0
abbrev pub arrive : ℕ → NetworkState → List Item → Option NetworkState
arrive cap n [] = None
arrive cap n (item ∷ rest) =
    option_and_then (λ queues. Some (record n { arrivals = rest; queues = queues }))
    (entered cap n 0 item)

-- a stage that reacted to an item
abbrev pub reacted : StageState → Item → StageState
reacted stage item = record {
  reaction = stage.reaction;
  state = (react stage.reaction stage.state item).state;
  unsent = (react stage.reaction stage.state item).given;
}

-- stage k with nothing left to put takes the first of these items
abbrev pub take_first : NetworkState → ℕ → StageState → List Item → List Item → Option NetworkState
take_first n k stage [] (item ∷ rest) =
    Some (record n {
      queues = with_queue n k rest;
      stages = slice_set n.stages k (reacted stage item);
    })
take_first n k stage [] [] = None
take_first n k stage (given ∷ more) items = None

-- stage k, where there is one, takes the first item of queue k
abbrev pub take_at : NetworkState → ℕ → Option StageState → Option NetworkState
take_at n k (Some stage) = take_first n k stage stage.unsent (queue n k)
take_at n k None = None

-- stage k puts the first of these items into queue k + 1
abbrev pub put_first : ℕ → NetworkState → ℕ → StageState → List Item → Option NetworkState
put_first cap n k stage [] = None
put_first cap n k stage (item ∷ rest) =
    option_and_then
    (λ queues. Some (record n {
      queues = queues;
      stages = slice_set n.stages k (record stage { unsent = rest });
    }))
    (entered cap n (k + 1) item)

-- stage k, where there is one, puts the first item that it gave
abbrev pub put_at : ℕ → NetworkState → ℕ → Option StageState → Option NetworkState
put_at cap n k (Some stage) = put_first cap n k stage stage.unsent
put_at cap n k None = None

-- the first of these items of the last queue is delivered
abbrev pub deliver : NetworkState → List Item → Option NetworkState
deliver n [] = None
deliver n (item ∷ rest) =
    Some (record n {
      queues = with_queue n (length n.stages) rest;
      delivered = n.delivered ++ item ∷ [];
    })

-- the network after a move, or None where the move is not possible
abbrev pub after : ℕ → NetworkState → Move → Option NetworkState
after cap n Arrive = arrive cap n n.arrivals
after cap n (Take k) = take_at n k (slice_get n.stages k)
after cap n (Put k) = put_at cap n k (slice_get n.stages k)
after cap n Deliver = deliver n (queue n (length n.stages))

-- these items where k is the place, else none
abbrev pub only_at : ℕ → ℕ → List Item → List Item
only_at place k items = if k == place then items else []

-- what a move brings to queue k
abbrev pub entering : NetworkState → Move → ℕ → List Item
entering n Arrive k = only_at 0 k (take 1 n.arrivals)
entering n (Take j) k = []
entering n (Put j) k = only_at (j + 1) k (take 1 (unsent_at n j))
entering n Deliver k = []

-- what a move takes out of queue k
abbrev pub leaving : NetworkState → Move → ℕ → List Item
leaving n Arrive k = []
leaving n (Take j) k = only_at j k (take 1 (queue n j))
leaving n (Put j) k = []
leaving n Deliver k = only_at (length n.stages) k (take 1 (queue n (length n.stages)))
