-- What was read of a log so far, as it is drawn.
use Rattle.std.specs.Prelude.{◌≡◌, ℕ, Bool, true, false, List, [], ◌∷◌, ◌++◌, is_some, Option, Some, None}
use Rattle.std.specs.Io.KnownBytes.{IsAtEnd, prepend_known}
use Rattle.tox_time.specs.declared.streams.item.Item.{Item}
use Rattle.tox_time.specs.declared.streams.position.StreamPosition.{StreamPosition}
use Rattle.tox_time.specs.streams.Stream.{IsStream, IsStreamFrom}
use Rattle.tox_time.specs.streams.Table.{ending, table}
use Rattle.tox_link.specs.declared.notes.LinkEvent.{LinkEvent}
use Rattle.tox_link.specs.declared.notes.LinkEvent.TheVariants.{SourceEnd}
use Rattle.tox_link.specs.log.Log.{IsGapless, has_source_end, heard, heard_bytes, heard_from, said}
use Rattle.tox_log.specs.declared.event_line.LogLine.{LogLine}
use Rattle.tox_log.specs.declared.event_line.LogLine.TheVariants.{Event, SourceReset, Last}
use Rattle.tox_log.specs.declared.last_line.LastLine.{LastLine}
use Rattle.tox_log.specs.declared.open_log.OpenLog.{OpenLog}
use Rattle.tox_log.specs.EventLines.{event_lines}
use Rattle.tox_log.specs.Lines.{IsWritable}
use Rattle.tox_log.specs.Numbers.{Lacks}
use Rattle.tox_log.specs.Order.{ComesNext, heard_with}
use Rattle.tox_plan.specs.RunnerView.{RunnerView}
use Rattle.tox_draw.specs.declared.frame.Frame.{Frame}
use Rattle.tox_draw.specs.declared.recorded.Hearing.{Hearing}
use Rattle.tox_draw.specs.declared.recorded.Record.{Record}
use Rattle.tox_draw.specs.Lines.{IsStrand}
use Rattle.tox_draw.specs.Planning.{DrawsPlan, WaitsAt}
use Rattle.tox_draw.specs.Recorded.{LogText, SaysLog, due_items, last_lines, latest_reading, link_end, written_table}
use Rattle.tox_log.specs.Hearing.{source_end_of}

-- events bring what was heard to a position, and a stream goes on from there
pub record LeadsTo (events : List LinkEvent) (position : StreamPosition) : Type 0 where
  pub bytes : heard_bytes events ≡ position.position
  pub ended : has_source_end events ≡ position.ended
  pub going : position.ended ≡ false → (items : List Item)
      → IsStreamFrom position.position position.latest items → IsStream (heard_from 0 events items)
  pub over : position.ended ≡ true → IsStream (heard events)

-- these events were heard
pub record HearsEvents (frame : Frame) (means : List Item → List Item) (events : List LinkEvent)
    (position : StreamPosition) (hearing : Hearing) (runner : RunnerView) : Type 0 where
  pub order : LeadsTo events position
  pub waits : WaitsAt position runner
  pub due : DrawsPlan frame means (heard_from 0 events) hearing.strands.planned runner
  pub arrived : IsStrand frame (table (heard events)) hearing.strands.arrived
  pub source_end : hearing.strands.source_end ≡ source_end_of events
  pub written : (stop : ℕ) → IsGapless 0 (said events) stop
      → IsStrand frame (written_table events) hearing.written
  pub latest : hearing.latest ≡ latest_reading events

-- these events and perhaps a last line were heard
pub record HearsLines (frame : Frame) (means : List Item → List Item) (events : List LinkEvent)
    (last : Option LastLine) (position : StreamPosition) (hearing : Hearing)
    (runner : RunnerView) : Type 0 where
  pub heard : HearsEvents frame means events position hearing runner
  pub end : hearing.end ≡ link_end last (latest_reading events)

-- an event that comes next is heard
abbrev pub HearsEvent : Frame → Hearing → RunnerView → LinkEvent → Hearing → RunnerView → Type 0
HearsEvent frame old before event new after =
    (means : List Item → List Item) (events : List LinkEvent) (position : StreamPosition)
    → ComesNext position (Event event) → IsWritable (Event event)
    → HearsEvents frame means events position old before
    → HearsLines frame means (events ++ event ∷ []) None (heard_with position (Event event)) new after

-- whether a reset ended the source, after an event that is a reset or not if it is the source's end
abbrev pub reset_after : LinkEvent → Bool → Bool → Bool
reset_after (SourceEnd instant) reset before = reset
reset_after event reset before = before

-- a line is heard: an event, or a last line that tells how the link ended
abbrev pub HearsLogLine : Frame → Hearing → RunnerView → LogLine → Hearing → RunnerView → Type 0
HearsLogLine frame old before (Event event) new after =
    HearsEvent frame old before event new after
    × (new.strands.source_reset ≡ reset_after event false old.strands.source_reset)
HearsLogLine frame old before (SourceReset instant) new after =
    HearsEvent frame old before (SourceEnd instant) new after × (new.strands.source_reset ≡ true)
HearsLogLine frame old before (Last last) new after =
    (new ≡ record old { end = link_end (Some last) old.latest }) × (after ≡ before)

-- what was read so far of these bytes was heard, and so many are left
pub record HearsSoFar (frame : Frame) (means : List Item → List Item) (given left : Option (List ℕ))
    (log : OpenLog) (hearing : Hearing) (runner : RunnerView) : Type 0 where
  pub events : List LinkEvent
  pub last : Option LastLine
  pub position : StreamPosition
  pub text : given ≡ prepend_known (event_lines hearing.strands.source_reset events ++ last_lines last) left
  pub over : log.over ≡ is_some last
  pub at : log.over ≡ false → position ≡ log.heard
  pub heard : HearsLines frame means events last position hearing runner

-- all lines of these bytes were heard
pub record HearsAll (frame : Frame) (means : List Item → List Item) (given : Option (List ℕ))
    (hearing : Hearing) (runner : RunnerView) : Type 0 where
  pub events : List LinkEvent
  pub last : Option LastLine
  pub position : StreamPosition
  pub torn : List ℕ
  pub left : Option (List ℕ)
  pub text : given
      ≡ prepend_known ((event_lines hearing.strands.source_reset events ++ last_lines last) ++ torn) left
  pub unended : Lacks 10 torn
  pub ended : IsAtEnd left
  pub heard : HearsLines frame means events last position hearing runner

-- a hearing of which nothing was heard yet
abbrev pub BeginsHearing : Frame → (List Item → List Item) → OpenLog → Hearing → RunnerView → Type 0
BeginsHearing frame means log hearing runner =
    (log.over ≡ false) × HearsLines frame means [] None log.heard hearing runner

-- what is kept of a log
pub record RecordsLog (frame : Frame) (log : LogText) (kept : Record) : Type 0 where
  pub arrived : IsStrand frame (table (heard log.events)) kept.strands.arrived
  pub source_end : kept.strands.source_end ≡ source_end_of log.events
  pub source_reset : kept.strands.source_reset ≡ log.source_reset
  pub due : IsStrand frame (table (due_items log)) kept.strands.planned
  pub due_end : kept.due_end ≡ ending (due_items log)
  pub written : (stop : ℕ) → IsGapless 0 (said log.events) stop
      → IsStrand frame (written_table log.events) kept.written
  pub end : kept.end ≡ link_end log.last (latest_reading log.events)

-- a log was read to its end from these bytes, and this is kept of it
pub record KeepsRecord (frame : Frame) (given : Option (List ℕ)) (kept : Record) : Type 0 where
  pub log : LogText
  pub says : SaysLog given log
  pub records : RecordsLog frame log kept
