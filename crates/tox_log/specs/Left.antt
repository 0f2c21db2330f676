-- What is left to be read of a log that a link can write.
use Rattle.std.specs.Prelude.{◌≡◌, ◌≢◌, ℕ, ◌<◌, ◌≤◌, true, false, List, [], ◌∷◌, ◌++◌, All, length, map, string_bytes, Option, Some, None, Result, IfErr}
use Rattle.tox_time.specs.declared.streams.item.Item.{Item}
use Rattle.std.specs.declared.alloc.Global.{Global}
use Rattle.std.specs.declared.string.String.{String}
use Rattle.tox_time.specs.declared.streams.position.StreamPosition.{StreamPosition}
use Rattle.tox_time.specs.declared.streams.stream.Stream.{Stream}
use Rattle.tox_words.specs.Draw.{lane_count}
use Rattle.tox_words.specs.declared.lanes.Lanes.{Lanes}
use Rattle.tox_defs.specs.declared.chain.Entry.{Entry}
use Rattle.tox_link.specs.declared.notes.LinkEvent.{LinkEvent}
use Rattle.tox_link.specs.log.Log.{IsShallowBehind}
use Rattle.tox_log.specs.declared.event_line.LogLine.{LogLine}
use Rattle.tox_log.specs.declared.fault.LogFault.{LogFault}
use Rattle.tox_log.specs.declared.fault.LogFault.TheVariants.{BadLine, TooDeep}
use Rattle.tox_log.specs.declared.heading.Heading.{Heading}
use Rattle.tox_log.specs.declared.judge.Judge.{Judge}
use Rattle.tox_log.specs.declared.open_log.OpenLog.{OpenLog}
use Rattle.tox_log.specs.declared.replay.Hearing.{Hearing}
use Rattle.tox_log.specs.declared.replay.Verdict.TheVariants.{Unfinished}
use Rattle.tox_log.specs.Judging.{Judged}
use Rattle.tox_log.specs.LinkLog.{events_in}
use Rattle.tox_log.specs.HeaderLines.{IsWritableToxic, PrintsToxic}
use Rattle.tox_log.specs.Lines.{IsWritable, line_words}
use Rattle.tox_log.specs.Numbers.{Lacks}
use Rattle.tox_log.specs.Opening.{named_lines}
use Rattle.tox_log.specs.Order.{ComesNext, heard_with}
use Rattle.tox_log.specs.Reading.{IsLineRead, to_hand, to_take}
use Rattle.tox_log.specs.WrittenLog.{AreInOrder, WrittenLog, log_lines}

-- no line is called bad
abbrev pub IsNoBadLine : LogFault → Type 0
IsNoBadLine fault = (number : ℕ) → fault ≢ BadLine number

-- none is called too deep
abbrev pub IsNotTooDeep : LogFault → Type 0
IsNotTooDeep fault = (number : ℕ) → fault ≢ TooDeep number

-- neither: memory was refused, or a read failed
abbrev pub BlamesNoLine : LogFault → Type 0
BlamesNoLine fault = IsNoBadLine fault × IsNotTooDeep fault

-- what the first three lines of a log say
pub record IsHeadingOf (heading : Heading) (log : WrittenLog) : Type 0 where
  pub proxy : string_bytes heading.proxy ≡ log.name
  pub number : heading.number ≡ log.number
  pub stream : heading.stream ≡ log.stream
  pub lanes : heading.lanes ≡ log.chain.lanes
  pub seed : heading.seed ≡ log.seed

-- a line of at most 4,096 bytes comes next, and these bytes behind its line feed
pub record HasLineNext (given : Option (List ℕ)) (line more : List ℕ) : Type 0 where
  pub bytes : given ≡ Some ((line ++ 10 ∷ []) ++ more)
  pub unended : Lacks 10 line
  pub short : length line ≤ 4_096

-- the second line of a log was read, and these bytes are left
pub record ReadsLinkLine (log : WrittenLog) (more : List ℕ) (left : Option (List ℕ)) (link : String Global × ℕ × Stream) : Type 0 where
  pub name : string_bytes link.0 ≡ log.name
  pub number : link.1 ≡ log.number
  pub stream : link.2 ≡ log.stream
  pub behind : left ≡ Some more

-- the third line of a log was read, and these bytes are left
pub record ReadsSeedLine (log : WrittenLog) (more : List ℕ) (left : Option (List ℕ)) (settings : Lanes × ℕ) : Type 0 where
  pub lanes : settings.0 ≡ log.chain.lanes
  pub seed : settings.1 ≡ log.seed
  pub behind : left ≡ Some more

-- the first three lines of a log were read, and these bytes are left
pub record ReadsHeading (log : WrittenLog) (more : List ℕ) (left : Option (List ℕ)) (heading : Heading) : Type 0 where
  pub says : IsHeadingOf heading log
  pub behind : left ≡ Some more

-- toxics are left, with which the chain has these entries; behind them lines and a torn rest
pub record HasToxicsLeft (log : OpenLog) (remaining : Option (List ℕ)) (entries : List Entry) (lines : List LogLine) : Type 0 where
  pub toxics : List (Entry × List ℕ)
  pub torn : List ℕ
  pub chain : entries ≡ log.chain.entries ++ map (λ named. named.0) toxics
  pub bytes : to_take log.lines remaining ≡ Some (named_lines toxics ++ (log_lines lines ++ torn))
  pub writable : All IsWritableToxic toxics
  pub room : length entries ≤ lane_count log.chain.lanes
  pub order : AreInOrder log.heard lines
  pub going : log.over ≡ false
  pub unended : Lacks 10 torn

-- a line that waits is as it was read
abbrev pub WaitsWell : OpenLog → Type 0
WaitsWell log = log.waits ≡ true → Lacks 10 log.lines.line.items × (log.lines.long ≡ false)

-- lines are left, and behind them a torn rest
pub record HasLinesLeft (log : OpenLog) (remaining : Option (List ℕ)) (lines : List LogLine) : Type 0 where
  pub torn : List ℕ
  pub bytes : to_hand log remaining ≡ Some (log_lines lines ++ torn)
  pub waits : WaitsWell log
  pub order : AreInOrder log.heard lines
  pub over : log.over ≡ true → lines ≡ []
  pub unended : Lacks 10 torn

-- the toxics of a log were read: its chain has these entries, and these lines are left
pub record ReadsChain (log : OpenLog) (remaining : Option (List ℕ)) (entries : List Entry) (lines : List LogLine) : Type 0 where
  pub chain : log.chain.entries ≡ entries
  pub left : HasLinesLeft log remaining lines

-- the line that was read is a toxic's, for which the chain has room
pub record IsNextToxic (log : OpenLog) (named : Entry × List ℕ) : Type 0 where
  pub line : List ℕ
  pub read : IsLineRead log.lines line
  pub printed : PrintsToxic line named
  pub room : length log.chain.entries < lane_count log.chain.lanes

-- of the lines that are left the first one is handed out, if there is one
abbrev pub HandsFirst : Option LogLine → OpenLog → Option (List ℕ) → List LogLine → Type 0
HandsFirst handed log remaining [] = handed ≡ None
HandsFirst handed log remaining (line ∷ lines) = (handed ≡ Some line) × HasLinesLeft log remaining lines

-- the header of a log was read, and its lines are left
pub record OpensWritten (log : OpenLog) (remaining : Option (List ℕ)) (written : WrittenLog) : Type 0 where
  pub heading : IsHeadingOf log.heading written
  pub chain : log.chain ≡ written.chain
  pub left : HasLinesLeft log remaining written.lines

-- the line that was read is this one, and may come next
pub record IsNextLine (log : OpenLog) (line : LogLine) : Type 0 where
  pub read : IsLineRead log.lines (line_words line)
  pub writable : IsWritable line
  pub next : ComesNext log.heard line
  pub going : log.over ≡ false

-- the judge is as far as what was heard
pub record IsHeardTo (judge : Judge) (heard : StreamPosition) : Type 0 where
  pub position : judge.heard ≡ heard.position
  pub latest : judge.latest ≡ heard.latest
  pub ended : judge.ended ≡ heard.ended

-- a line that may come next isn't called bad
abbrev pub AcceptsNext : {T : Type 0} → Hearing → LogLine → Result T LogFault → Type 0
AcceptsNext hearing line result = (heard : StreamPosition) → IsHeardTo hearing.judge heard → ComesNext heard line → IfErr result IsNoBadLine

-- the judge comes as far as the line, until the verdict is known
abbrev pub ComesWith : Hearing → LogLine → Hearing → Type 0
ComesWith old line new = (heard : StreamPosition) → IsHeardTo old.judge heard → new.verdict ≡ Unfinished → IsHeardTo new.judge (heard_with heard line)

-- a line isn't called too deep behind events behind which it may come
abbrev pub FindsRoom : {T : Type 0} → Hearing → LogLine → Result T LogFault → Type 0
FindsRoom hearing line result = (means : List Item → List Item) (events : List LinkEvent) → Judged means (λ reading. true) hearing.judge events
    → IsShallowBehind events (events_in (line ∷ [])) → IfErr result IsNotTooDeep

-- the judge is one after the line's event too, until the verdict is known
abbrev pub JudgesWith : Hearing → LogLine → Hearing → Type 0
JudgesWith old line new = (means : List Item → List Item) (events : List LinkEvent) → Judged means (λ reading. true) old.judge events → new.verdict ≡ Unfinished
    → Judged means (λ reading. true) new.judge (events ++ events_in (line ∷ []))
