-- The lines that are read of a log, beside the bytes that they come from.
use Rattle.std.specs.Prelude.{◌≡◌, ℕ, ◌+◌, ◌<◌, ◌^◌, Bool, true, false, if◌then◌else◌, List, [], ◌∷◌, ◌++◌, slice_range, Option}
use Rattle.std.specs.Io.KnownBytes.{IsAtEnd, prepend_known}
use Rattle.tox_log.specs.declared.line_reader.LineReader.{LineReader}
use Rattle.tox_log.specs.declared.open_log.OpenLog.{OpenLog}
use Rattle.tox_log.specs.declared.event_line.LogLine.{LogLine}
use Rattle.tox_log.specs.declared.event_line.LogLine.TheVariants.{Event, SourceReset, Last}
use Rattle.tox_log.specs.Lines.{IsWritable, line_words}
use Rattle.tox_log.specs.Numbers.{KeepsText, Lacks}

-- the bytes of the block that were not taken yet
abbrev pub waiting : LineReader → List ℕ
waiting lines = slice_range lines.block.items lines.start lines.stop

-- the bytes that lines come from: those of the block, and then the reader's
abbrev pub to_take : LineReader → Option (List ℕ) → Option (List ℕ)
to_take lines remaining = prepend_known (waiting lines) remaining

-- the line has these bytes, unless it is too long
abbrev pub HasLine : LineReader → List ℕ → Type 0
HasLine lines text = KeepsText lines.line.items lines.long text

-- the line that was read is this one
abbrev pub IsLineRead : LineReader → List ℕ → Type 0
IsLineRead lines line = (lines.line.items ≡ line) × (lines.long ≡ false)

-- bytes were taken, and the line has them
pub record Takes (old new : LineReader) (before after : Option (List ℕ)) (text taken : List ℕ) : Type 0 where
  pub given : to_take old before ≡ prepend_known taken (to_take new after)
  pub line : HasLine new text

-- bytes of the block were taken onto the line: those before a line feed, which goes with them, or all
pub record TakesPart (old new : LineReader) (ended : Bool) : Type 0 where
  pub part : List ℕ
  pub given : waiting old ≡ part ++ (if ended then 10 ∷ waiting new else waiting new)
  pub line : (text : List ℕ) → HasLine old text → HasLine new (text ++ part)
  pub unended : Lacks 10 part

-- a line was taken with its line feed
abbrev pub TakesLine : LineReader → LineReader → Option (List ℕ) → Option (List ℕ) → Type 0
TakesLine old new before after = (text : List ℕ) × Takes old new before after text (text ++ 10 ∷ []) × Lacks 10 text

-- no further line came: what was left has no line feed, and the reader is at its end
pub record TakesRest (old new : LineReader) (before after : Option (List ℕ)) : Type 0 where
  pub torn : List ℕ
  pub given : to_take old before ≡ prepend_known torn (to_take new after)
  pub unended : Lacks 10 torn
  pub ended : IsAtEnd (to_take new after)

-- no line feed is left in these bytes
pub record LacksLine (bytes : Option (List ℕ)) : Type 0 where
  pub torn : List ℕ
  pub left : Option (List ℕ)
  pub given : bytes ≡ prepend_known torn left
  pub unended : Lacks 10 torn
  pub ended : IsAtEnd left

-- the bytes of the lines that are still to be handed out
abbrev pub to_hand : OpenLog → Option (List ℕ) → Option (List ℕ)
to_hand log remaining =
    if log.waits then prepend_known (log.lines.line.items ++ 10 ∷ []) (to_take log.lines remaining) else to_take log.lines remaining

-- a line's number, in a log of fewer than 2^64 lines
abbrev pub IsLineNumber : ℕ → ℕ → Type 0
IsLineNumber number line = line < 2 ^ 64 → number ≡ line

-- the number of the line that is to be handed out next
abbrev pub next_number : OpenLog → ℕ
next_number log = if log.waits then log.number else log.number + 1

-- a line more was read, or handed out
abbrev pub CountsOn : ℕ → ℕ → Type 0
CountsOn old new = (line : ℕ) → IsLineNumber old line → IsLineNumber new (line + 1)

abbrev pub is_last : LogLine → Bool
is_last (Event event) = false
is_last (SourceReset instant) = false
is_last (Last last) = true

-- a line was handed out: the bytes are its text and a line feed, and none came behind the last one
pub record Hands (old new : OpenLog) (before after : Option (List ℕ)) (line : LogLine) : Type 0 where
  pub given : to_hand old before ≡ prepend_known (line_words line ++ 10 ∷ []) (to_hand new after)
  pub writable : IsWritable line
  pub going : old.over ≡ false
  pub over : new.over ≡ is_last line
