-- A log as a link writes it, or the front of one behind its header.
use Rattle.std.specs.Prelude.{◌≡◌, ℕ, ◌<◌, ◌≤◌, ◌^◌, true, List, [], ◌∷◌, ◌++◌, All, codes, flat_map, length, Option, Some}
use Rattle.std.specs.List.{zip}
use Rattle.tox_time.specs.declared.streams.position.StreamPosition.{StreamPosition}
use Rattle.tox_time.specs.declared.streams.stream.Stream.{Stream}
use Rattle.tox_time.specs.streams.StreamPosition.{first_position}
use Rattle.tox_words.specs.Draw.{lane_count}
use Rattle.tox_defs.specs.chain.Chain.{Toxics}
use Rattle.tox_log.specs.declared.event_line.LogLine.{LogLine}
use Rattle.tox_log.specs.HeaderLines.{IsWritableName, IsWritableToxic}
use Rattle.tox_log.specs.HeaderText.{header_text, link_line}
use Rattle.tox_log.specs.Lines.{IsWritable, line_words}
use Rattle.tox_log.specs.Numbers.{Lacks}
use Rattle.tox_log.specs.Order.{ComesNext, heard_with}
use Rattle.tox_log.specs.Reading.{is_last}

-- lines that can be written one behind the other: each may come next, and none comes behind a last one
abbrev pub AreInOrder : StreamPosition → List LogLine → Type 0
AreInOrder heard [] = Unit {0}
AreInOrder heard (line ∷ lines) =
    IsWritable line × ComesNext heard line × (is_last line ≡ true → lines ≡ [])
    × AreInOrder (heard_with heard line) lines

-- the text of lines
abbrev pub log_lines : List LogLine → List ℕ
log_lines lines = flat_map (λ line. line_words line ++ codes "\n") lines

-- what a log says: its header, the lines behind it, and the bytes behind the last line feed
pub record WrittenLog : Type 0 where
  pub name : List ℕ
  pub number : ℕ
  pub stream : Stream
  pub seed : ℕ
  pub chain : Toxics
  pub names : List (List ℕ)
  pub lines : List LogLine
  pub torn : List ℕ

-- a log that a link can write: at most a toxic for each lane, and lines of at most 4,096 bytes
pub record IsWritableLog (log : WrittenLog) : Type 0 where
  pub name : IsWritableName log.name
  pub number : (1 ≤ log.number) × (log.number ≤ 1_000_000)
  pub seed : log.seed < 2 ^ 64
  pub short : length (link_line log.name log.number log.stream) ≤ 4_097
  pub toxics : All IsWritableToxic (zip log.chain.entries log.names)
  pub one_each : length log.names ≡ length log.chain.entries
  pub room : length log.chain.entries ≤ lane_count log.chain.lanes
  pub lines : AreInOrder first_position log.lines
  pub torn : Lacks 10 log.torn

-- its bytes
abbrev pub written_text : WrittenLog → List ℕ
written_text log =
    header_text log.name log.number log.stream log.seed log.chain log.names
    ++ (log_lines log.lines ++ log.torn)

-- bytes that are the text of a log that a link can write
pub record IsWrittenText (given : Option (List ℕ)) (log : WrittenLog) : Type 0 where
  pub writable : IsWritableLog log
  pub text : given ≡ Some (written_text log)
