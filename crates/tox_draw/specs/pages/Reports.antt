-- What a report keeps of logs.
use Rattle.std.specs.Prelude.{◌≡◌, ℕ, Bool, true, false, List, [], ◌∷◌, ◌++◌, codes, Option, string_bytes}
use Rattle.tox_words.specs.Seeded.{seeded_words}
use Rattle.tox_defs.specs.Flow.{chain_draws}
use Rattle.tox_text.specs.Names.{visible_name}
use Rattle.tox_log.specs.declared.fault.ReplayFault.{ReplayFault}
use Rattle.tox_log.specs.declared.fault.ReplayFault.TheVariants.{OutOfMemory}
use Rattle.tox_log.specs.declared.replay.JudgedLog.{JudgedLog}
use Rattle.tox_log.specs.FaultText.{replay_fault_text}
use Rattle.tox_log.specs.JudgedLine.{IsJudged}
use Rattle.tox_draw.specs.Forms.{chosen_forms}
use Rattle.tox_draw.specs.declared.pages.report.Report.{Report}
use Rattle.tox_draw.specs.declared.pages.row.Refusal.{Refusal}
use Rattle.tox_draw.specs.declared.pages.row.Row.{Row}
use Rattle.tox_draw.specs.declared.pages.row.StreamFacts.{StreamFacts}
use Rattle.tox_draw.specs.pages.Logs.{KnownLog, OpensLog}
use Rattle.tox_draw.specs.pages.Outcomes.{outcome_of}
use Rattle.tox_draw.specs.pages.StreamEnds.{cutter_of, stream_end_of}

-- a report keeps these logs that can't be judged, and these that were judged, in this order
pub record KeepsLogs (report : Report) (refusals : List Refusal) (rows : List Row) : Type 0 where
  pub refused : report.refusals.items ≡ refusals
  pub judged : report.rows.items ≡ rows

-- all logs stay
abbrev pub KeepsOn : Report → Report → Type 0
KeepsOn old new = KeepsLogs new old.refusals.items old.rows.items

-- the words of a log's link and stream
abbrev pub log_words : JudgedLog → List ℕ
log_words log = seeded_words log.heading.seed log.heading.number log.heading.stream

-- the short forms of the toxics that the stream of a log met, or of the others
abbrev pub chosen_of : JudgedLog → Bool → List ℕ
chosen_of log applied =
    chosen_forms (chain_draws log.chain (log_words log)) applied (codes "") 0 log.chain.entries

-- what a judged log says of its stream
pub record IsStreamOf (log : JudgedLog) (facts : StreamFacts) : Type 0 where
  pub proxy : string_bytes facts.proxy ≡ visible_name (string_bytes log.heading.proxy)
  pub link : facts.link ≡ log.heading.number
  pub stream : facts.stream ≡ log.heading.stream
  pub seed : facts.seed ≡ log.heading.seed
  pub toxics : string_bytes facts.toxics ≡ chosen_of log true
  pub skipped : string_bytes facts.skipped ≡ chosen_of log false
  pub heard : facts.heard ≡ log.heard
  pub said : facts.said ≡ log.said
  pub outcome : facts.outcome ≡ outcome_of log
  pub end : facts.end
      ≡ stream_end_of (outcome_of log) log.source_end log.source_reset
      (cutter_of log.chain (log_words log))
  pub late : facts.late ≡ log.late

-- the log of this name, which was judged so, came behind the others
pub record KeepsLog (name : List ℕ) (log : JudgedLog) (old new : Report) : Type 0 where
  pub row : Row
  pub named : string_bytes row.name ≡ name
  pub reported : IsStreamOf log row.facts
  pub added : KeepsLogs new old.refusals.items (old.rows.items ++ row ∷ [])

-- the log of this name, which can't be judged for this fault, came behind the others
pub record KeepsFault (name : List ℕ) (fault : ReplayFault) (old new : Report) : Type 0 where
  pub refusal : Refusal
  pub named : string_bytes refusal.name ≡ name
  pub reported : string_bytes refusal.fault ≡ replay_fault_text fault
  pub added : KeepsLogs new (old.refusals.items ++ refusal ∷ []) old.rows.items

-- the log of this name was opened and judged, and came behind the others
pub record TakesLog (known : KnownLog) (name : List ℕ) (old new : Report) : Type 0 where
  pub given : Option (List ℕ)
  pub opened : OpensLog known given
  pub log : JudgedLog
  pub judged : IsJudged given log
  pub kept : KeepsLog name log old new

-- what a fault leaves: the log with its text. Out of memory all logs stay
abbrev pub RefusesLog : List ℕ → Report → Report → ReplayFault → Type 0
RefusesLog name old new OutOfMemory = KeepsOn old new
RefusesLog name old new fault = KeepsFault name fault old new
