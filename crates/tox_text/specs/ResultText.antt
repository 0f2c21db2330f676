-- The result text: a line for each longest run of delivered bytes, and then a line for the ending.
use Rattle.std.specs.Prelude.{ℕ, ◌+◌, ◌==◌, ◌&&◌, Bool, List, [], ◌∷◌, ◌++◌, length, map, flat_map, slice_index, nat_lt, codes, decimal, if◌then◌else◌}
use Rattle.std.specs.List.{enumerate_from}
use Rattle.hex.specs.Hex.{encode_lower}
use Rattle.tox_time.specs.declared.streams.item.Item.{Item}
use Rattle.tox_time.specs.declared.streams.item.Item.TheVariants.{Chunk, Closed, Reset, Quiet}
use Rattle.tox_time.specs.declared.streams.ending.Ending.{Ending}
use Rattle.tox_time.specs.declared.streams.ending.Ending.TheVariants.{StillOpen, Closed as ClosedAt, Reset as ResetAt}
use Rattle.tox_text.specs.arrivals.ArrivalsText.{Arrived}

-- a delivered byte: its position, where the arrival that it came in starts, the instant at which it leaves, and its value
pub record Delivered : Type 0 where
  pub position : ℕ
  pub arrival : ℕ
  pub instant : ℕ
  pub value : ℕ

-- where the arrival of a position starts
abbrev pub arrival_of : List Item → ℕ → ℕ
arrival_of [] position = position
arrival_of (Chunk span t ∷ items) position =
    if nat_lt position span.stop then span.start else arrival_of items position
arrival_of (Closed t ∷ items) position = arrival_of items position
arrival_of (Reset t ∷ items) position = arrival_of items position
arrival_of (Quiet ∷ items) position = arrival_of items position

-- the arrived byte at a position, which leaves at an instant
abbrev pub delivered_at : Arrived → ℕ → ℕ → Delivered
delivered_at arrived position t =
    record { position = position; arrival = arrival_of arrived.items position; instant = t; value = slice_index arrived.bytes position }

-- the delivered bytes, one for each instant of the table
abbrev pub delivered : Arrived → List ℕ → List Delivered
delivered arrived table =
    map (λ place. delivered_at arrived place.0 place.1) (enumerate_from 0 table)

-- whether two neighbours are of one run: they came in one arrival, and leave at one instant
abbrev pub are_one_run : Delivered → Delivered → Bool
are_one_run first next = first.arrival == next.arrival && first.instant == next.instant

-- a byte before some runs: it begins the first of them, or is a run of its own
abbrev pub onto_runs : Delivered → List (List Delivered) → List (List Delivered)
onto_runs first [] = (first ∷ []) ∷ []
onto_runs first ([] ∷ runs) = (first ∷ []) ∷ runs
onto_runs first ((next ∷ run) ∷ runs) =
    if are_one_run first next then (first ∷ next ∷ run) ∷ runs
    else (first ∷ []) ∷ (next ∷ run) ∷ runs

-- the longest runs
abbrev pub runs_of : List Delivered → List (List Delivered)
runs_of [] = []
runs_of (first ∷ others) = onto_runs first (runs_of others)

-- the line of bytes from a position on, which leave at an instant
abbrev pub bytes_line : ℕ → ℕ → List ℕ → List ℕ
bytes_line t start bytes =
    decimal t ++ codes " " ++ decimal start ++ codes ".." ++ decimal (start + length bytes)
    ++ codes " " ++ encode_lower bytes ++ codes "\n"

-- the line of a run
abbrev pub run_line : List Delivered → List ℕ
run_line [] = []
run_line (first ∷ others) =
    bytes_line first.instant first.position (map (λ byte. byte.value) (first ∷ others))

-- the lines of the longest runs
abbrev pub lines_text : List Delivered → List ℕ
lines_text bytes = flat_map run_line (runs_of bytes)

-- the words of an ending
abbrev pub ending_words : Ending → List ℕ
ending_words StillOpen = codes "open"
ending_words (ClosedAt t) = codes "closed " ++ decimal t
ending_words (ResetAt t) = codes "reset " ++ decimal t

-- the line of an ending
abbrev pub ending_line : Ending → List ℕ
ending_line ending = ending_words ending ++ codes "\n"

-- the result of what arrived, by the table and the ending of what was delivered
abbrev pub result_text : Arrived → List ℕ → Ending → List ℕ
result_text arrived table ending = lines_text (delivered arrived table) ++ ending_line ending
