-- The last line of a log.
use Rattle.std.specs.Prelude.{ℕ, List, ◌++◌, codes, decimal}
use Rattle.tox_text.specs.ResultText.{ending_words}
use Rattle.tox_log.specs.declared.last_line.BreakCause.{BreakCause}
use Rattle.tox_log.specs.declared.last_line.BreakCause.TheVariants.{Write, Memory, Thread, Upstream, Stopped}
use Rattle.tox_log.specs.declared.last_line.LastLine.{LastLine}
use Rattle.tox_log.specs.declared.last_line.LastLine.TheVariants.{Ended, Broken}

-- the name of a cause
abbrev pub cause_name : BreakCause → List ℕ
cause_name Write = codes "write"
cause_name Memory = codes "memory"
cause_name Thread = codes "thread"
cause_name Upstream = codes "upstream"
cause_name Stopped = codes "stopped"

-- how a stream ended: the reading of the clock and the ending; or why it broke off, and after how many written bytes
abbrev pub last_words : LastLine → List ℕ
last_words (Ended reading ending) = decimal reading ++ codes " " ++ ending_words ending
last_words (Broken cause bytes) = codes "broken " ++ cause_name cause ++ codes " " ++ decimal bytes

-- the last line
abbrev pub last_line : LastLine → List ℕ
last_line last = last_words last ++ codes "\n"
