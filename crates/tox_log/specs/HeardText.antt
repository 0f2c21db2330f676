-- What a log heard, as texts: its arrivals and its words.
use Rattle.std.specs.Prelude.{◌≡◌, ℕ, zero, suc, ◌*◌, Bool, true, false, List, [], ◌++◌, All, codes, decimal, flat_map, map, replicate, Option}
use Rattle.std.specs.Io.KnownBytes.{append_known, prepend_known}
use Rattle.std.specs.List.{join_with_byte}
use Rattle.tox_text.specs.Writing.{AppendsFront}
use Rattle.tox_link.specs.declared.notes.LinkEvent.TheVariants.{Piece, SourceEnd, Wrote}
use Rattle.tox_log.specs.declared.event_line.LogLine.{LogLine}
use Rattle.tox_log.specs.declared.event_line.LogLine.TheVariants.{Event, SourceReset, Last}
use Rattle.tox_log.specs.declared.fault.LogFault.TheVariants.{OutOfMemory}
use Rattle.tox_log.specs.declared.heard_text.HeardFault.{HeardFault}
use Rattle.tox_log.specs.declared.heard_text.HeardFault.TheVariants.{Log, WriteFault}
use Rattle.tox_log.specs.Lines.{IsWritable}
use Rattle.tox_log.specs.Reading.{LacksLine}
use Rattle.tox_log.specs.WrittenLog.{log_lines}

-- the arrival of so many bytes of zero
abbrev pub zeros_line : ℕ → ℕ → List ℕ
zeros_line len instant = decimal instant ++ codes " data " ++ replicate (2 * len) 48 ++ codes "\n"

-- the source's end
abbrev pub eof_line : ℕ → List ℕ
eof_line instant = decimal instant ++ codes " eof\n"

-- what a line of a log heard, as a line of an arrivals text. The bytes of a piece are zeros, and a reset is an end
abbrev pub heard_line : LogLine → List ℕ
heard_line (Event (Piece len instant)) = zeros_line len instant
heard_line (Event (SourceEnd instant)) = eof_line instant
heard_line (Event (Wrote slice reading)) = []
heard_line (SourceReset instant) = eof_line instant
heard_line (Last last) = []

-- what lines heard
abbrev pub heard_text : List LogLine → List ℕ
heard_text lines = flat_map heard_line lines

-- bytes are these lines, and a rest without a line
pub record AreLinesOf (given : Option (List ℕ)) (lines : List LogLine) : Type 0 where
  pub left : Option (List ℕ)
  pub writable : All IsWritable lines
  pub text : given ≡ prepend_known (log_lines lines) left
  pub rest : LacksLine left

-- what the lines of these bytes heard was written
pub record WritesHeard (given old new : Option (List ℕ)) : Type 0 where
  pub lines : List LogLine
  pub read : AreLinesOf given lines
  pub written : new ≡ append_known old (heard_text lines)

-- whether a fault is the writer's
abbrev pub is_write_fault : HeardFault → Bool
is_write_fault (Log fault) = false
is_write_fault WriteFault = true

-- what a fault leaves of a text: a failed write its front, and out of memory nothing. There is no other fault
abbrev pub LeavesText : Option (List ℕ) → Option (List ℕ) → Bool → List ℕ → HeardFault → Type 0
LeavesText old new failed text (Log fault) = (fault ≡ OutOfMemory) × (new ≡ old) × (failed ≡ false)
LeavesText old new failed text WriteFault = AppendsFront old new text × (failed ≡ true)

-- what stands before the element at an index of a list
abbrev pub separator : ℕ → List ℕ
separator zero = []
separator (suc index) = codes ","

-- words, separated by commas
abbrev pub words_line : List ℕ → List ℕ
words_line words = join_with_byte 44 (map decimal words) ++ codes "\n"
