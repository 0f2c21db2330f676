-- The arrivals text: the arrival list and the arrived bytes that its lines describe, or its first fault.
use Rattle.std.specs.Prelude.{ℕ, ◌+◌, ◌==◌, List, [], ◌∷◌, ◌++◌, length, Option, Some, None, Result, Ok, Err, if◌then◌else◌}
use Rattle.std.specs.List.{slice_split}
use Rattle.tox_time.specs.declared.streams.item.Item.{Item}
use Rattle.tox_time.specs.declared.streams.item.Item.TheVariants.{Closed}
use Rattle.tox_time.specs.declared.streams.arrivals.ArrivalFault.{ArrivalFault}
use Rattle.tox_time.specs.streams.Arrivals.{push_fault, eof_fault, next_chunk}
use Rattle.tox_time.specs.Steps.{◌>>=◌}
use Rattle.tox_text.specs.declared.fault.DryFault.{DryFault}
use Rattle.tox_text.specs.declared.fault.DryFault.TheVariants.{BadLine, Arrival}
use Rattle.tox_text.specs.arrivals.Line.{Line, arrival, end, line_of}

-- what arrived: the stored items, and the bytes of their chunks
pub record Arrived : Type 0 where
  pub items : List Item
  pub bytes : List ℕ

-- nothing arrived yet
abbrev pub no_arrivals : Arrived
no_arrivals = record { items = []; bytes = [] }

-- a piece more
abbrev pub with_data : Arrived → ℕ → List ℕ → Arrived
with_data arrived t piece =
    record {
      items = arrived.items
          ++ next_chunk arrived.items (length piece) t ∷ [];
      bytes = arrived.bytes ++ piece;
    }

-- the source's end
abbrev pub with_eof : Arrived → ℕ → Arrived
with_eof arrived t = record { items = arrived.items ++ Closed t ∷ []; bytes = arrived.bytes }

-- what a line leaves, unless its arrival is refused
abbrev pub arrived_or_fault : ℕ → Option ArrivalFault → Arrived → Result Arrived DryFault
arrived_or_fault n (Some fault) arrived = Err (Arrival fault n)
arrived_or_fault n None arrived = Ok arrived

-- what the n-th line leaves, where it is a line of the arrivals text
abbrev pub after_read : ℕ → Arrived → Option Line → Result Arrived DryFault
after_read n arrived None = Err (BadLine n)
after_read n arrived (Some (arrival t piece)) =
    arrived_or_fault n (push_fault arrived.items (length piece) t) (with_data arrived t piece)
after_read n arrived (Some (end t)) =
    arrived_or_fault n (eof_fault arrived.items t) (with_eof arrived t)

-- what the n-th line leaves: an empty one says nothing
abbrev pub after_line : ℕ → Arrived → List ℕ → Result Arrived DryFault
after_line n arrived line =
    if length line == 0 then Ok arrived else after_read n arrived (line_of line)

-- what the lines leave one after the other, from the n-th on
abbrev pub after_lines : ℕ → List (List ℕ) → Arrived → Result Arrived DryFault
after_lines n [] arrived = Ok arrived
after_lines n (line ∷ lines) arrived = after_line n arrived line >>= after_lines (n + 1) lines

-- the lines between the line feeds; behind a last line feed stands an empty one
abbrev pub lines_of : List ℕ → List (List ℕ)
lines_of text = slice_split (λ byte. byte == 10) text

-- what a text says has arrived, or its first fault with its line from 1
abbrev pub arrivals_of : List ℕ → Result Arrived DryFault
arrivals_of text = after_lines 1 (lines_of text) no_arrivals
