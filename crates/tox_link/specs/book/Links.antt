-- The links of a proxy, and what a change of one side of a link leaves of them.
use Rattle.std.specs.Prelude.{◌≡◌, ℕ, ◌+◌, ◌-◌, ◌≤◌, List, Option, Some, None, Result, Ok, Err, if◌then◌else◌, nat_lt, nat_eq, slice_get, slice_set}
use Rattle.std.specs.List.{sum_by}
use Rattle.tox_time.specs.declared.streams.stream.Stream.{Stream}
use Rattle.tox_time.specs.declared.streams.stream.Stream.TheVariants.{Upstream, Downstream}
use Rattle.tox_time.specs.declared.streams.ending.Ending.{Ending}
use Rattle.tox_link.specs.declared.book.sides.SideState.{SideState}
use Rattle.tox_link.specs.declared.book.sides.SideState.TheVariants.{Running, Ended, Broken}
use Rattle.tox_link.specs.declared.book.sides.Side.{Side}
use Rattle.tox_link.specs.declared.book.sides.Link.{Link}
use Rattle.tox_link.specs.declared.book.BookFault.{BookFault}
use Rattle.tox_link.specs.declared.book.BookFault.TheVariants.{UnknownLink, AlreadyEnded, TooManyBytes}

-- a side that has passed no byte
abbrev pub new_side : Side
new_side = record { bytes = 0; state = Running }

-- a link as it is opened
abbrev pub new_link : Link
new_link = record { upstream = new_side; downstream = new_side }

-- the link's side of this stream
abbrev pub side_of : Stream → Link → Side
side_of Upstream link = link.upstream
side_of Downstream link = link.downstream

-- the link with another side of this stream
abbrev pub with_side : Stream → Side → Link → Link
with_side Upstream side link = record link { upstream = side }
with_side Downstream side link = record link { downstream = side }

-- the link of this number, counted from 1
abbrev pub link_at : List Link → ℕ → Option Link
link_at links number = if nat_eq number 0 then None else slice_get links (number - 1)

-- the bytes of all links on this stream
abbrev pub total_of : Stream → List Link → ℕ
total_of stream links = sum_by (λ link. (side_of stream link).bytes) links

-- a running side with more bytes, at most 2^40
abbrev pub with_bytes : ℕ → Side → Result Side BookFault
with_bytes count side =
    if nat_lt 1099511627776 (side.bytes + count) then Err TooManyBytes else Ok (record side { bytes = side.bytes + count })

-- how a side stands that has ended, or that a fault broke
abbrev pub end_state : Option Ending → SideState
end_state None = Broken
end_state (Some ending) = Ended ending

-- a running side as it has ended
abbrev pub with_end : Option Ending → Side → Result Side BookFault
with_end ending side = Ok (record side { state = end_state ending })

-- the link, where its side in this state is running
abbrev pub if_running : SideState → Link → Result Link BookFault
if_running Running link = Ok link
if_running (Ended _) link = Err AlreadyEnded
if_running Broken link = Err AlreadyEnded

-- the link, where there is one and its side of this stream is running
abbrev pub running_in : Stream → Option Link → Result Link BookFault
running_in _ None = Err UnknownLink
running_in stream (Some link) = if_running (side_of stream link).state link

-- the link of this number, where its side of this stream is running
abbrev pub running_link : List Link → ℕ → Stream → Result Link BookFault
running_link links number stream = running_in stream (link_at links number)

-- the links with another side of a link
abbrev pub put_side : List Link → ℕ → Stream → Link → Result Side BookFault → Result (List Link) BookFault
put_side _ _ _ _ (Err fault) = Err fault
put_side links number stream link (Ok side) = Ok (slice_set links (number - 1) (with_side stream side link))

-- the links with the change made to the side of a running link
abbrev pub changed_in : (Side → Result Side BookFault) → List Link → ℕ → Stream → Result Link BookFault → Result (List Link) BookFault
changed_in _ _ _ _ (Err fault) = Err fault
changed_in change links number stream (Ok link) = put_side links number stream link (change (side_of stream link))

-- the links with the change made to this side of link `number`, or why it is refused
abbrev pub changed : (Side → Result Side BookFault) → List Link → ℕ → Stream → Result (List Link) BookFault
changed change links number stream = changed_in change links number stream (running_link links number stream)

-- the answer is Ok and these are the links, or it is this refusal and the links stay
abbrev pub MakesChange : List Link → Result (Unit {0}) BookFault → List Link → Result (List Link) BookFault → Type 0
MakesChange old answer new (Ok links) = (answer ≡ Ok tt) × (new ≡ links)
MakesChange old answer new (Err fault) = (answer ≡ Err fault) × (new ≡ old)

-- each side of the link has at most 2^40 bytes
abbrev pub IsBounded : Link → Type 0
IsBounded link = (link.upstream.bytes ≤ 1099511627776) × (link.downstream.bytes ≤ 1099511627776)
