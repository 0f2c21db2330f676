-- The line of an event in a log.
use Rattle.std.specs.Prelude.{ℕ, List, ◌++◌, codes, decimal}
use Rattle.tox_link.specs.declared.notes.LinkEvent.{LinkEvent}
use Rattle.tox_link.specs.declared.notes.LinkEvent.TheVariants.{Piece, SourceEnd, Wrote}

-- an event: the reading of the clock, and what happened then
abbrev pub event_words : LinkEvent → List ℕ
event_words (Piece len instant) = decimal instant ++ codes " piece " ++ decimal len
event_words (SourceEnd instant) = decimal instant ++ codes " end"
event_words (Wrote slice reading) =
    decimal reading ++ codes " wrote " ++ decimal slice.span.start ++ codes ".." ++ decimal slice.span.stop
    ++ codes " " ++ decimal slice.instant

-- the line of an event
abbrev pub event_line : LinkEvent → List ℕ
event_line event = event_words event ++ codes "\n"
