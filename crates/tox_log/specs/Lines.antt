-- The lines behind the header.
use Rattle.std.specs.Prelude.{◌≡◌, ◌≢◌, ℕ, ◌^◌, ◌≤◌, List, ◌++◌, codes, decimal, Option, MatchOption}
use Rattle.tox_time.specs.Time.{IsInstant}
use Rattle.tox_time.specs.declared.streams.span.Span.{Span}
use Rattle.tox_time.specs.declared.streams.ending.Ending.{Ending}
use Rattle.tox_time.specs.declared.streams.ending.Ending.TheVariants.{StillOpen, Closed as ClosedAt, Reset as ResetAt}
use Rattle.tox_link.specs.declared.notes.LinkEvent.{LinkEvent}
use Rattle.tox_link.specs.declared.notes.LinkEvent.TheVariants.{Piece, SourceEnd, Wrote}
use Rattle.tox_log.specs.declared.last_line.LastLine.{LastLine}
use Rattle.tox_log.specs.declared.last_line.LastLine.TheVariants.{Ended, Broken}
use Rattle.tox_log.specs.declared.event_line.LogLine.{LogLine}
use Rattle.tox_log.specs.declared.event_line.LogLine.TheVariants.{Event, SourceReset, Last}
use Rattle.tox_log.specs.EventText.{event_words}
use Rattle.tox_log.specs.LastText.{last_words}

-- a line behind the header, without its line feed
abbrev pub line_words : LogLine → List ℕ
line_words (Event event) = event_words event
line_words (SourceReset instant) = decimal instant ++ codes " end reset"
line_words (Last last) = last_words last

-- positions that a log may have: at most 2^40
abbrev pub IsWritableSpan : Span → Type 0
IsWritableSpan span = (span.start ≤ 2 ^ 40) × (span.stop ≤ 2 ^ 40)

-- a range, as a line has it
abbrev pub span_words : Span → List ℕ
span_words span = decimal span.start ++ codes ".." ++ decimal span.stop

-- what a text is read as: the range that it writes, or none where it writes none that a log may have
abbrev pub ReadsSpan : Option Span → List ℕ → Type 0
ReadsSpan read text =
    MatchOption read ((span : Span) → IsWritableSpan span → text ≢ span_words span)
    (λ span. (text ≡ span_words span) × IsWritableSpan span)

-- an ending whose instant, if it has one, is at most 10^15
abbrev pub IsWritableEnding : Ending → Type 0
IsWritableEnding StillOpen = Unit {0}
IsWritableEnding (ClosedAt t) = IsInstant t
IsWritableEnding (ResetAt t) = IsInstant t

-- instants are at most 10^15, the bytes of a piece at most 16,384, and positions at most 2^40
abbrev pub IsWritableEvent : LinkEvent → Type 0
IsWritableEvent (Piece len instant) = IsInstant instant × (len ≤ 16_384)
IsWritableEvent (SourceEnd instant) = IsInstant instant
IsWritableEvent (Wrote slice reading) = IsInstant reading × IsWritableSpan slice.span × IsInstant slice.instant

abbrev pub IsWritableLast : LastLine → Type 0
IsWritableLast (Ended reading ending) = IsInstant reading × IsWritableEnding ending
IsWritableLast (Broken cause bytes) = bytes ≤ 2 ^ 40

abbrev pub IsWritable : LogLine → Type 0
IsWritable (Event event) = IsWritableEvent event
IsWritable (SourceReset instant) = IsInstant instant
IsWritable (Last last) = IsWritableLast last

-- a text is no line that a log may have
abbrev pub IsNoLine : List ℕ → Type 0
IsNoLine text = (line : LogLine) → IsWritable line → text ≢ line_words line

-- what a text is read as: the line that prints so, or none where it is no line
abbrev pub ReadsLine : Option LogLine → List ℕ → Type 0
ReadsLine read text = MatchOption read (IsNoLine text) (λ line. (text ≡ line_words line) × IsWritable line)
