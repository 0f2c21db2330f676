-- What arrives: the list that an `Arrivals` stands for, and what its calls refuse, in their order.
use Rattle.std.specs.Prelude.{ℕ, ◌+◌, ◌^◌, ◌==◌, Bool, List, [], ◌∷◌, Option, Some, None, nat_lt, if◌then◌else◌}
use Rattle.tox_time.specs.declared.streams.item.Item.{Item}
use Rattle.tox_time.specs.declared.streams.item.Item.TheVariants.{Chunk, Closed, Reset, Quiet}
use Rattle.tox_time.specs.declared.streams.arrivals.ArrivalFault.{ArrivalFault}
use Rattle.tox_time.specs.declared.streams.arrivals.ArrivalFault.TheVariants.{TimeBack, EmptyPiece, TooManyBytes, AfterEnd}
use Rattle.tox_time.specs.streams.Stream.{arrived, latest, has_final}

-- the arrival list of the stored items: `Quiet` ends it where they have no final
abbrev pub arrival_list : List Item → List Item
arrival_list [] = Quiet ∷ []
arrival_list (Chunk span t ∷ items) = Chunk span t ∷ arrival_list items
arrival_list (Closed t ∷ items) = Closed t ∷ items
arrival_list (Reset t ∷ items) = Reset t ∷ items
arrival_list (Quiet ∷ items) = Quiet ∷ items

-- why a piece of so many bytes at an instant is refused, after so many bytes, the last instant, and perhaps an end
abbrev pub piece_fault : ℕ → ℕ → Bool → ℕ → ℕ → Option ArrivalFault
piece_fault bytes since ended len t =
    if nat_lt t since then Some TimeBack
    else (if len == 0 then Some EmptyPiece
    else (if nat_lt (2 ^ 40) (bytes + len) then Some TooManyBytes
    else (if ended then Some AfterEnd else None)))

-- why an end at an instant is refused, after the last instant, and perhaps an end
abbrev pub end_fault : ℕ → Bool → ℕ → Option ArrivalFault
end_fault since ended t =
    if nat_lt t since then Some TimeBack
    else (if ended then Some AfterEnd else None)

-- why a piece is refused behind these items
abbrev pub push_fault : List Item → ℕ → ℕ → Option ArrivalFault
push_fault items len t = piece_fault (arrived items) (latest items) (has_final items) len t

-- why an end is refused behind these items
abbrev pub eof_fault : List Item → ℕ → Option ArrivalFault
eof_fault items t = end_fault (latest items) (has_final items) t

-- a piece as the chunk behind the others
abbrev pub next_chunk : List Item → ℕ → ℕ → Item
next_chunk items len t = Chunk (record { start = arrived items; stop = arrived items + len }) t
