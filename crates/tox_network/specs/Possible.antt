-- The default move: the possible one nearest to the output.
use Rattle.std.specs.Prelude.{ℕ, zero, suc, List, [], ◌∷◌, length, Option, Some, None}
use Rattle.tox_time.specs.declared.streams.item.Item.{Item}
use Rattle.tox_network.specs.declared.moves.Move.{Move}
use Rattle.tox_network.specs.declared.moves.Move.TheVariants.{Arrive, Take, Put, Deliver}
use Rattle.tox_network.specs.NetworkState.{NetworkState, queue, unsent_at}

-- this move if there is an item for it, else the other
abbrev pub if_any : List Item → Move → Option Move → Option Move
if_any [] move other = other
if_any (item ∷ items) move other = Some move

-- the last of the moves before stage k that finds an item
abbrev pub possible_before : NetworkState → ℕ → Option Move
possible_before n zero = if_any n.arrivals Arrive None
possible_before n (suc k) =
    if_any (unsent_at n k) (Put k) (if_any (queue n k) (Take k) (possible_before n k))

-- of all moves the last that finds an item: nothing lies behind it, so it has room
abbrev pub possible : NetworkState → Option Move
possible n = if_any (queue n (length n.stages)) Deliver (possible_before n (length n.stages))
