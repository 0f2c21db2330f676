-- What a verdict says of the lines that were read.
use Rattle.std.specs.Prelude.{◌≡◌, ℕ, ◌+◌, ◌⊎◌, Bool, true, false, List, [], ◌∷◌, ◌++◌, All, is_some, length, string_bytes, Option, Some, None}
use Rattle.std.specs.Io.KnownBytes.{prepend_known}
use Rattle.tox_time.specs.streams.Stream.{IsStream}
use Rattle.tox_words.specs.Seeded.{seeded_words}
use Rattle.tox_defs.specs.chain.Chain.{Toxics}
use Rattle.tox_defs.specs.Flow.{chain_flow}
use Rattle.tox_log.specs.declared.heading.Heading.{Heading}
use Rattle.tox_log.specs.declared.replay.JudgedLog.{JudgedLog}
use Rattle.tox_log.specs.HeaderLines.{AreHeaderNames}
use Rattle.tox_log.specs.HeaderText.{header_text}
use Rattle.tox_time.specs.declared.streams.item.Item.{Item}
use Rattle.tox_time.specs.declared.streams.ending.Ending.{Ending}
use Rattle.tox_time.specs.declared.streams.ending.Ending.TheVariants.{StillOpen}
use Rattle.tox_link.specs.declared.notes.LinkEvent.{LinkEvent}
use Rattle.tox_link.specs.declared.notes.LinkEvent.TheVariants.{Piece, SourceEnd, Wrote}
use Rattle.tox_time.specs.streams.Table.{slices_table}
use Rattle.tox_link.specs.log.Log.{heard_bytes, reading_of, said, IsFaithful}
use Rattle.tox_link.specs.Reports.{ReportsAt}
use Rattle.tox_log.specs.declared.event_line.LogLine.{LogLine}
use Rattle.tox_log.specs.declared.event_line.LogLine.TheVariants.{Event, SourceReset, Last}
use Rattle.tox_log.specs.declared.last_line.BreakCause.{BreakCause}
use Rattle.tox_log.specs.declared.last_line.LastLine.TheVariants.{Ended, Broken}
use Rattle.tox_log.specs.declared.replay.Verdict.{Verdict}
use Rattle.tox_log.specs.declared.replay.Verdict.TheVariants.{Faithful, Unfinished, Unfaithful}
use Rattle.tox_log.specs.declared.replay.Hearing.{Hearing}
use Rattle.tox_log.specs.declared.open_log.OpenLog.{OpenLog}
use Rattle.tox_log.specs.EventLines.{event_lines}
use Rattle.tox_log.specs.LastText.{last_line}
use Rattle.tox_log.specs.Lateness.{IsLate, KeepsLate, ending_late, lates}
use Rattle.tox_log.specs.Lines.{IsWritable, line_words}
use Rattle.tox_log.specs.Reading.{IsLineNumber, LacksLine, is_last, next_number, to_hand}
use Rattle.tox_log.specs.Judging.{HasNoReport, Judged, source_heard}

-- the clock reported the reading of each event
abbrev pub AreReported : (ℕ → Bool) → List LinkEvent → Type 0
AreReported reported events = All (λ event. reported (reading_of event) ≡ true) events

-- each event can be a line of a log
abbrev pub AreWritable : List LinkEvent → Type 0
AreWritable events = All (λ event. IsWritable (Event event)) events

-- the instant of the source's end, if it was heard
abbrev pub source_end_of : List LinkEvent → Option ℕ
source_end_of [] = None
source_end_of (Piece len instant ∷ events) = source_end_of events
source_end_of (SourceEnd instant ∷ events) = Some instant
source_end_of (Wrote slice reading ∷ events) = source_end_of events

-- by these events so many bytes were heard and said, the source's end was heard then or not at all, and there were so many writes
pub record AreCounts (events : List LinkEvent) (taken written : ℕ) (source_end : Option ℕ) (writes : ℕ) : Type 0 where
  pub took : heard_bytes events ≡ taken
  pub wrote : length (slices_table (said events)) ≡ written
  pub source : source_end_of events ≡ source_end
  pub count : length (said events) ≡ writes

-- the text is the lines of these events, whose source ended and was reset or not as the hearing has it, and the hearing is one after them
pub record HasHeard (means : List Item → List Item) (text : List ℕ) (hearing : Hearing) : Type 0 where
  pub events : List LinkEvent
  pub written : AreWritable events
  pub lines : text ≡ event_lines hearing.source_reset events
  pub source_end : source_end_of events ≡ hearing.source_end
  pub judged : (reported : ℕ → Bool) → AreReported reported events → Judged means reported hearing.judge events
  pub count : length (said events) ≡ hearing.writes
  pub late : KeepsLate (lates events) hearing.late

-- the text is the lines of such events, and a last line that the stream broke off for this cause
pub record HasBroken (means : List Item → List Item) (text : List ℕ) (hearing : Hearing) (cause : BreakCause) : Type 0 where
  pub front : List ℕ
  pub bytes : ℕ
  pub heard : HasHeard means front hearing
  pub writable : IsWritable (Last (Broken cause bytes))
  pub lines : text ≡ front ++ last_line (Broken cause bytes)

-- the text is the lines of such events, and a last line that tells of an open link
pub record HasOpenEnd (means : List Item → List Item) (text : List ℕ) (hearing : Hearing) : Type 0 where
  pub front : List ℕ
  pub reading : ℕ
  pub heard : HasHeard means front hearing
  pub writable : IsWritable (Last (Ended reading StillOpen))
  pub lines : text ≡ front ++ last_line (Ended reading StillOpen)

-- the lines that were read so far tell no ending that is settled: they have a last line exactly if there is a cause, which is that of
-- the line, or if they tell of an open link
abbrev pub HasNoEnding : (List Item → List Item) → List ℕ → Bool → Hearing → Option BreakCause → Type 0
HasNoEnding means text over hearing None =
    ((over ≡ false) × HasHeard means text hearing) ⊎ ((over ≡ true) × HasOpenEnd means text hearing)
HasNoEnding means text over hearing (Some cause) = (over ≡ true) × HasBroken means text hearing cause

-- the text is the lines of events and a last line with this ending, and the link with these events reports so: it took and wrote so
-- many bytes in so many writes, which were so late with its ending, and its source had ended then or not at all, by a reset or not
pub record HasReport (means : List Item → List Item) (text : List ℕ) (taken written : ℕ) (source_end : Option ℕ) (reset : Bool) (writes : ℕ) (late : List ℕ)
    (ending : Ending) : Type 0 where
  pub events : List LinkEvent
  pub reading : ℕ
  pub each : AreWritable events
  pub writable : IsWritable (Last (Ended reading ending))
  pub lines : text ≡ event_lines reset events ++ last_line (Ended reading ending)
  pub counts : AreCounts events taken written source_end writes
  pub values : late ≡ lates events ++ ending_late reading ending
  pub report : (reported : ℕ → Bool) → AreReported reported events → reported reading ≡ true
      → ReportsAt means (λ t. reported t ≡ true) events taken written ending (source_heard (is_some source_end)) reading

-- whatever the clock reported, no log with these events that goes on with this one is faithful
abbrev pub IsRefusedEvent : (List Item → List Item) → List LinkEvent → LinkEvent → Type 0
IsRefusedEvent means events event = (reported : ℕ → Bool) → IsFaithful means (λ t. reported t ≡ true) (events ++ event ∷ []) → ⊥

-- no log with these events that goes on with this line is faithful, or, whatever the clock reported, no link with these events reports this
-- ending at this reading; a line that tells a break is never refused
abbrev pub IsRefused : (List Item → List Item) → List LinkEvent → LogLine → Type 0
IsRefused means events (Event event) = IsRefusedEvent means events event
IsRefused means events (SourceReset instant) = IsRefusedEvent means events (SourceEnd instant)
IsRefused means events (Last (Ended reading ending)) = (reported : ℕ → Bool) → HasNoReport means reported events reading ending
IsRefused means events (Last (Broken cause bytes)) = ⊥

-- the text is the lines of faithful events, one that is refused behind them, and more; that line has this number, if the first of
-- them is line `start`
pub record HasRefusal (means : List Item → List Item) (text : List ℕ) (start number : ℕ) : Type 0 where
  pub events : List LinkEvent
  pub reset : Bool
  pub line : LogLine
  pub more : List ℕ
  pub written : AreWritable events
  pub writable : IsWritable line
  pub lines : text ≡ event_lines reset events ++ ((line_words line ++ 10 ∷ []) ++ more)
  pub faithful : (reported : ℕ → Bool) → AreReported reported events → IsFaithful means (λ t. reported t ≡ true) events
  pub refused : IsRefused means events line
  pub numbered : IsLineNumber number (start + length events)

-- what a verdict says of the lines that were read so far from line `start` on, which have a last line or none yet
abbrev pub SaysSo : ℕ → (List Item → List Item) → List ℕ → Bool → Hearing → Verdict → Type 0
SaysSo start means text over hearing (Faithful ending) =
    (over ≡ true) × (hearing.broken ≡ None) × (late : List ℕ) × KeepsLate late hearing.late
    × HasReport means text hearing.judge.heard hearing.judge.said hearing.source_end hearing.source_reset hearing.writes late ending
SaysSo start means text over hearing Unfinished = HasNoEnding means text over hearing hearing.broken
SaysSo start means text over hearing (Unfaithful number) = (hearing.broken ≡ None) × HasRefusal means text start number

-- a hearing says so of the lines that were read so far
abbrev pub SaysOf : ℕ → (List Item → List Item) → List ℕ → Bool → Hearing → Type 0
SaysOf start means text over hearing = SaysSo start means text over hearing hearing.verdict

-- a line of this number that can be written is heard
abbrev pub HearsLine : Hearing → LogLine → ℕ → Hearing → Type 0
HearsLine old line number new = (start : ℕ) (means : List Item → List Item) (text : List ℕ) → IsWritable line → old.broken ≡ None
    → (heard : HasHeard means text old) → IsLineNumber number (start + length heard.events)
    → SaysOf start means (text ++ (line_words line ++ 10 ∷ [])) (is_last line) new

-- the lines that were left of a log were read, and these bytes are what is left behind them: a hearing says so of the lines
pub record HearsToEnd (old new : OpenLog) (before : Option (List ℕ)) (first last : Hearing) : Type 0 where
  pub text : List ℕ
  pub left : Option (List ℕ)
  pub given : to_hand old before ≡ prepend_known text left
  pub rest : LacksLine left
  pub says : (start : ℕ) (means : List Item → List Item) → IsLineNumber (next_number old) start → SaysOf start means [] old.over first
      → SaysOf start means text new.over last
  pub heading : new.heading ≡ old.heading
  pub chain : new.chain ≡ old.chain

-- this is what a chain with these words does to a stream
abbrev pub IsMeaningOf : (List Item → List Item) → Toxics → List ℕ → Type 0
IsMeaningOf means chain words = (items : List Item) → IsStream items → means items ≡ chain_flow chain words items

-- a hearing of which nothing was heard yet, under the meaning of a chain with the words of a link's stream
pub record BeginsJudging (heading : Heading) (chain : Toxics) (hearing : Hearing) : Type 0 where
  pub means : List Item → List Item
  pub meaning : IsMeaningOf means chain (seeded_words heading.seed heading.number heading.stream)
  pub says : (start : ℕ) → SaysOf start means [] false hearing
  pub unfinished : hearing.verdict ≡ Unfinished

-- bytes are the header of a judged log, these lines, and a rest without a line. The header has a line for each toxic of the chain, and no name has a
-- line feed, so it lists just these toxics; and this is what the chain does with the words of its link's stream
pub record IsTextOf (given : Option (List ℕ)) (judged : JudgedLog) (lines : List ℕ) (means : List Item → List Item) : Type 0 where
  pub names : List (List ℕ)
  pub left : Option (List ℕ)
  pub named : AreHeaderNames (string_bytes judged.heading.proxy) judged.chain.entries names
  pub text : given ≡ prepend_known (header_text (string_bytes judged.heading.proxy) judged.heading.number judged.heading.stream judged.heading.seed judged.chain
      names ++ lines) left
  pub rest : LacksLine left
  pub meaning : IsMeaningOf means judged.chain (seeded_words judged.heading.seed judged.heading.number judged.heading.stream)

-- behind the header stand the lines of events and a last line with this ending, and a link with these events reports so
pub record IsFaithfulText (given : Option (List ℕ)) (judged : JudgedLog) (ending : Ending) : Type 0 where
  pub lines : List ℕ
  pub means : List Item → List Item
  pub text : IsTextOf given judged lines means
  pub late : List ℕ
  pub report : HasReport means lines judged.heard judged.said judged.source_end judged.source_reset judged.writes late ending
  pub percentiles : IsLate late judged.late
  pub whole : judged.broken ≡ None

-- behind the header, which has three lines and one for each toxic, stand the lines of events and one that is refused, which has this
-- number
pub record IsRefusedText (given : Option (List ℕ)) (judged : JudgedLog) (number : ℕ) : Type 0 where
  pub lines : List ℕ
  pub means : List Item → List Item
  pub text : IsTextOf given judged lines means
  pub refusal : HasRefusal means lines (4 + length judged.chain.entries) number
  pub whole : judged.broken ≡ None

-- no last line, or one that tells of an open link; with a cause it tells that the stream broke off
abbrev pub TellsNoEnding : Option BreakCause → List ℕ → Type 0
TellsNoEnding None last =
    (last ≡ []) ⊎ ((reading : ℕ) × IsWritable (Last (Ended reading StillOpen)) × (last ≡ last_line (Ended reading StillOpen)))
TellsNoEnding (Some cause) last = (bytes : ℕ) × IsWritable (Last (Broken cause bytes)) × (last ≡ last_line (Broken cause bytes))

-- the text is the lines of events that are faithful, and no last line or one that tells no settled ending; and these are the events'
-- counts, and how late its writes were
pub record HasStopped (means : List Item → List Item) (text : List ℕ) (broken : Option BreakCause) (taken written : ℕ) (source_end : Option ℕ) (reset : Bool)
    (writes : ℕ) (late : List ℕ) : Type 0 where
  pub events : List LinkEvent
  pub last : List ℕ
  pub each : AreWritable events
  pub lines : text ≡ event_lines reset events ++ last
  pub tells : TellsNoEnding broken last
  pub counts : AreCounts events taken written source_end writes
  pub values : late ≡ lates events
  pub faithful : (reported : ℕ → Bool) → AreReported reported events → IsFaithful means (λ t. reported t ≡ true) events

-- behind the header stand the lines of faithful events, and no last line with a settled ending
pub record IsUnfinishedText (given : Option (List ℕ)) (judged : JudgedLog) : Type 0 where
  pub lines : List ℕ
  pub means : List Item → List Item
  pub text : IsTextOf given judged lines means
  pub late : List ℕ
  pub stopped : HasStopped means lines judged.broken judged.heard judged.said judged.source_end judged.source_reset judged.writes late
  pub percentiles : IsLate late judged.late
