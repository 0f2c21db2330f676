-- A log was judged, and its line written or not.
use Rattle.std.specs.Prelude.{◌≡◌, ℕ, Bool, true, false, List, Option}
use Rattle.std.specs.Io.KnownBytes.{append_known}
use Rattle.tox_time.specs.declared.streams.ending.Ending.{Ending}
use Rattle.tox_text.specs.Writing.{AppendsFront}
use Rattle.tox_log.specs.declared.fault.ReplayFault.{ReplayFault}
use Rattle.tox_log.specs.declared.fault.ReplayFault.TheVariants.{OutOfMemory, WriteFault, Unreadable, BadLog, LogTooDeep, NotFaithful}
use Rattle.tox_log.specs.Hearing.{IsFaithfulText, IsRefusedText, IsUnfinishedText}
use Rattle.tox_log.specs.declared.replay.JudgedLog.{JudgedLog}
use Rattle.tox_log.specs.declared.replay.Verdict.{Verdict}
use Rattle.tox_log.specs.declared.replay.Verdict.TheVariants.{Faithful, Unfaithful, Unfinished}

-- what was read is faithful, unfinished or refused, as the verdict of this log says
pub record IsJudged (given : Option (List ℕ)) (log : JudgedLog) : Type 0 where
  pub faithful : (ending : Ending) → log.verdict ≡ Faithful ending → IsFaithfulText given log ending
  pub unfinished : log.verdict ≡ Unfinished → IsUnfinishedText given log
  pub refused : (number : ℕ) → log.verdict ≡ Unfaithful number → IsRefusedText given log number

-- what was written is this text of a log with this verdict, which is that of what was read
pub record HasJudged (given old new : Option (List ℕ)) (text : JudgedLog → List ℕ) (verdict : Verdict) : Type 0 where
  pub log : JudgedLog
  pub reported : verdict ≡ log.verdict
  pub line : new ≡ append_known old (text log)
  pub judged : IsJudged given log

-- the writer failed within this text of a log, whose verdict is that of what was read
pub record BreaksJudged (given old new : Option (List ℕ)) (text : JudgedLog → List ℕ) : Type 0 where
  pub log : JudgedLog
  pub judged : IsJudged given log
  pub front : AppendsFront old new (text log)

-- what a fault leaves: if a write failed the front of such a text, and else nothing
abbrev pub LeavesJudged : Option (List ℕ) → Option (List ℕ) → Option (List ℕ) → Bool → (JudgedLog → List ℕ) → ReplayFault → Type 0
LeavesJudged given old new failed text WriteFault = BreaksJudged given old new text × (failed ≡ true)
LeavesJudged given old new failed text OutOfMemory = (new ≡ old) × (failed ≡ false)
LeavesJudged given old new failed text (Unreadable name) = (new ≡ old) × (failed ≡ false)
LeavesJudged given old new failed text (BadLog name line) = (new ≡ old) × (failed ≡ false)
LeavesJudged given old new failed text (LogTooDeep name line) = (new ≡ old) × (failed ≡ false)
LeavesJudged given old new failed text (NotFaithful count) = ⊥
