-- The faults that an arrivals text can have.
use Rattle.std.proofs.Common.{◌≡◌, ◌≢◌, ℕ, ◌+◌, Bool, true, false, List, [], ◌∷◌, length, ◌==◌, Option, Some, None, Result, Ok, Err, if◌then◌else◌, subst}
use Rattle.tox_time.specs.Steps.{◌>>=◌}
use Rattle.tox_time.specs.declared.streams.arrivals.ArrivalFault.{ArrivalFault}
use Rattle.tox_time.specs.streams.Arrivals.{push_fault, eof_fault}
use Rattle.tox_text.specs.declared.fault.DryFault.{DryFault}
use Rattle.tox_text.specs.declared.fault.DryFault.TheVariants.{OutOfMemory, BadLine, TooLong, ReadFault, WriteFault, Arrival}
use Rattle.tox_text.specs.arrivals.ArrivalsText.{Arrived, arrivals_of, lines_of, no_arrivals, arrived_or_fault, with_eof, after_line, after_lines, with_data}
use Rattle.tox_text.specs.arrivals.ArrivalsText.{after_read}
use Rattle.tox_text.specs.arrivals.Line.{Line, arrival, end, line_of}
use Rattle.tox_runs.specs.runs.Reading.{HasCause, ReadsWhole}

-- a fault, where there is one, is of a line
abbrev IsOfLine : Result Arrived DryFault → Type 0
IsOfLine (Ok arrived) = Unit {0}
IsOfLine (Err OutOfMemory) = ⊥
IsOfLine (Err (BadLine n)) = Unit {0}
IsOfLine (Err TooLong) = ⊥
IsOfLine (Err ReadFault) = ⊥
IsOfLine (Err WriteFault) = ⊥
IsOfLine (Err (Arrival fault n)) = Unit {0}

of_line_refused : (n : ℕ) (fault : Option ArrivalFault) (arrived : Arrived) → IsOfLine (arrived_or_fault n fault arrived)
of_line_refused n (Some fault) arrived = tt
of_line_refused n None arrived = tt

of_line_read : (n : ℕ) (arrived : Arrived) (line : Option Line) → IsOfLine (after_read n arrived line)
of_line_read n arrived None = tt
of_line_read n arrived (Some (arrival t piece)) = of_line_refused n (push_fault arrived.items (length piece) t) (with_data arrived t piece)
of_line_read n arrived (Some (end t)) = of_line_refused n (eof_fault arrived.items t) (with_eof arrived t)

of_line_unless : (empty : Bool) (arrived : Arrived) (read : Result Arrived DryFault) → IsOfLine read → IsOfLine (if empty then Ok arrived else read)
of_line_unless true arrived read of_line = tt
of_line_unless false arrived read of_line = of_line

of_line_then : (first : Result Arrived DryFault) (next : Arrived → Result Arrived DryFault) → IsOfLine first → ((arrived : Arrived) → IsOfLine (next arrived))
    → IsOfLine (first >>= next)
of_line_then (Ok arrived) next first_of next_of = next_of arrived
of_line_then (Err fault) next first_of next_of = first_of

of_line_lines : (n : ℕ) (lines : List (List ℕ)) (arrived : Arrived) → IsOfLine (after_lines n lines arrived)
of_line_lines n [] arrived = tt
of_line_lines n (line ∷ lines) arrived =
    of_line_then (after_line n arrived line) (after_lines (n + 1) lines)
    (of_line_unless (length line == 0) arrived (after_read n arrived (line_of line)) (of_line_read n arrived (line_of line)))
    (λ next. of_line_lines (n + 1) lines next)

of_line_arrivals : (text : List ℕ) → IsOfLine (arrivals_of text)
of_line_arrivals text = of_line_lines 1 (lines_of text) no_arrivals

-- the fault of a text that was read has its cause in the text
pub HasCause-spelled : (before after : Option (List ℕ)) (read_failed write_failed : Bool) (text : List ℕ) (fault : DryFault) → ReadsWhole before after text
    → (fault ≢ OutOfMemory → arrivals_of text ≡ Err fault) → HasCause before after read_failed write_failed fault
HasCause-spelled before after read_failed write_failed text OutOfMemory read first = tt
HasCause-spelled before after read_failed write_failed text (BadLine n) read first = record { text = text; read = read; first = first (λ same. cc) }
HasCause-spelled before after read_failed write_failed text TooLong read first = absurd (subst IsOfLine (first (λ same. cc)) (of_line_arrivals text))
HasCause-spelled before after read_failed write_failed text ReadFault read first = absurd (subst IsOfLine (first (λ same. cc)) (of_line_arrivals text))
HasCause-spelled before after read_failed write_failed text WriteFault read first = absurd (subst IsOfLine (first (λ same. cc)) (of_line_arrivals text))
HasCause-spelled before after read_failed write_failed text (Arrival refused n) read first = record { text = text; read = read; first = first (λ same. cc) }
