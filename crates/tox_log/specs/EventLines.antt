-- The lines of what a link notes, where the source's end may have been a reset by its peer.
use Rattle.std.specs.Prelude.{ℕ, Bool, true, false, List, ◌++◌, codes, flat_map}
use Rattle.tox_link.specs.declared.notes.LinkEvent.{LinkEvent}
use Rattle.tox_link.specs.declared.notes.LinkEvent.TheVariants.{Piece, SourceEnd, Wrote}
use Rattle.tox_log.specs.declared.event_line.LogLine.{LogLine}
use Rattle.tox_log.specs.declared.event_line.LogLine.TheVariants.{Event, SourceReset}
use Rattle.tox_log.specs.Lines.{line_words}

-- the line of an event: a source's end is reported as a reset, if it was one
abbrev pub logged_line : Bool → LinkEvent → LogLine
logged_line false event = Event event
logged_line true (Piece len instant) = Event (Piece len instant)
logged_line true (SourceEnd instant) = SourceReset instant
logged_line true (Wrote slice reading) = Event (Wrote slice reading)

-- its text
abbrev pub logged_text : Bool → LinkEvent → List ℕ
logged_text reset event = line_words (logged_line reset event) ++ codes "\n"

-- the text of the lines of events
abbrev pub event_lines : Bool → List LinkEvent → List ℕ
event_lines reset events = flat_map (logged_text reset) events
