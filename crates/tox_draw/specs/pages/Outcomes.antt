-- What came of a stream.
use Rattle.std.specs.Prelude.{ℕ, ◌==◌, ◌&&◌, Bool, List, codes, is_some, Option, Some, None, if◌then◌else◌}
use Rattle.tox_log.specs.declared.last_line.BreakCause.{BreakCause}
use Rattle.tox_log.specs.declared.replay.JudgedLog.{JudgedLog}
use Rattle.tox_log.specs.declared.replay.Verdict.{Verdict}
use Rattle.tox_log.specs.declared.replay.Verdict.TheVariants as verdict
use Rattle.tox_time.specs.declared.streams.ending.Ending.TheVariants as ending
use Rattle.tox_draw.specs.declared.pages.outcome.Outcome.{Outcome}
use Rattle.tox_draw.specs.declared.pages.outcome.Outcome.TheVariants.{Open, Closed, SourceReset, Cut, Reset, Broken, Missing, Unfaithful}

-- what `replay` calls such a log
abbrev pub outcome_verdict : Outcome → List ℕ
outcome_verdict Open = codes "faithful"
outcome_verdict (Closed t) = codes "faithful"
outcome_verdict (SourceReset t) = codes "faithful"
outcome_verdict (Cut t) = codes "faithful"
outcome_verdict (Reset t) = codes "faithful"
outcome_verdict (Broken cause) = codes "unfinished"
outcome_verdict Missing = codes "unfinished"
outcome_verdict (Unfaithful line) = codes "unfaithful"

-- a faithful log whose stream broke off, or that has no last line
abbrev pub unfinished_outcome : Option BreakCause → Outcome
unfinished_outcome (Some cause) = Broken cause
unfinished_outcome None = Missing

-- a stream whose source's end was heard, by a reset or not, and all its bytes left
abbrev pub whole_outcome : ℕ → Bool → Outcome
whole_outcome t reset = if reset then SourceReset t else Closed t

-- a stream that its plan closed: cut, unless its source's end was heard and all its bytes left
abbrev pub closed_outcome : ℕ → Bool → Bool → Outcome
closed_outcome t whole reset = if whole then whole_outcome t reset else Cut t

-- what came of a stream with this verdict
abbrev pub outcome_from : Verdict → Option BreakCause → Bool → Bool → Outcome
outcome_from (verdict.Unfaithful line) broken whole reset = Unfaithful line
outcome_from verdict.Unfinished broken whole reset = unfinished_outcome broken
outcome_from (verdict.Faithful ending.StillOpen) broken whole reset = Open
outcome_from (verdict.Faithful (ending.Reset t)) broken whole reset = Reset t
outcome_from (verdict.Faithful (ending.Closed t)) broken whole reset = closed_outcome t whole reset

-- what came of the stream of a judged log
abbrev pub outcome_of : JudgedLog → Outcome
outcome_of log = outcome_from log.verdict log.broken (is_some log.source_end && (log.said == log.heard)) log.source_reset
