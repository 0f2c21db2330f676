-- The log of a link that is carried, up to its end or to a fault.
use Rattle.std.specs.Prelude.{◌≡◌, ℕ, ◌≤◌, Bool, true, List, [], ◌∷◌, ◌++◌, length, is_some}
use Rattle.tox_time.specs.declared.streams.item.Item.{Item}
use Rattle.tox_time.specs.declared.streams.ending.Ending.{Ending}
use Rattle.tox_time.specs.declared.streams.ending.Ending.TheVariants.{StillOpen, Closed as ClosedAt, Reset as ResetAt}
use Rattle.tox_time.specs.streams.Table.{table, final_of}
use Rattle.tox_link.specs.declared.notes.LinkEvent.{LinkEvent}
use Rattle.tox_link.specs.declared.carrying.writer_side.WriterSide.{WriterSide}
use Rattle.tox_link.specs.log.Carried.{Carried}
use Rattle.tox_link.specs.link_core.Core.{CoreView, remaining_output}
use Rattle.tox_link.specs.log.Log.{heard, heard_bytes, has_source_end, IsFaithful, SaysHeard}
use Rattle.tox_link.specs.Sources.{read_end_of}

-- the log is carried, and has the source's end where that came in time
pub record Logged (means : List Item → List Item) (reported : ℕ → Type 0) (side : WriterSide) (log : List LinkEvent) : Type 0 where
  pub carried : Carried means reported side.core log
  pub closed : has_source_end log ≡ is_some (read_end_of side.source)

-- a step with these events keeps the log
abbrev pub KeepsLogged : (ℕ → Type 0) → WriterSide → List LinkEvent → WriterSide → Type 0
KeepsLogged reported old more new = (means : List Item → List Item) (log : List LinkEvent) → Logged means reported old log
    → Logged means reported new (log ++ more)

-- the log of a link that broke off after so many bytes: they are no more than the plan means for what was heard
pub record IsCutOff (means : List Item → List Item) (reported : ℕ → Type 0) (written : ℕ) (log : List LinkEvent) : Type 0 where
  pub faithful : IsFaithful means reported log
  pub few : written ≤ length (table (means (heard log)))
  pub of_heard : SaysHeard log
  pub within : written ≤ heard_bytes log

-- a step that broke off leaves the log as it was
abbrev pub CutsOff : (ℕ → Type 0) → WriterSide → ℕ → Type 0
CutsOff reported old written = (means : List Item → List Item) (log : List LinkEvent) → Logged means reported old log → IsCutOff means reported written log

-- from an empty log on, this one is kept
abbrev pub LogsFrom : (ℕ → Type 0) → WriterSide → List LinkEvent → WriterSide → Type 0
LogsFrom reported old log new = (means : List Item → List Item) → Logged means reported old [] → Logged means reported new log

abbrev pub CutsOffFrom : (ℕ → Type 0) → WriterSide → List LinkEvent → ℕ → Type 0
CutsOffFrom reported old log written = (means : List Item → List Item) → Logged means reported old [] → IsCutOff means reported written log

-- the ending's instant, if it has one, is reached
abbrev pub IsReached : ℕ → Ending → Type 0
IsReached now StillOpen = Unit {0}
IsReached now (ClosedAt t) = t ≤ now
IsReached now (ResetAt t) = t ≤ now

-- the link has ended so: nothing else is to come, and the clock reported an instant at or past the ending's;
-- it stays open only once the source's end came
pub record HasEnded (reported : ℕ → Type 0) (core : CoreView) (source_ended : Bool) (ending : Ending) : Type 0 where
  pub only : (items : List Item) → remaining_output core items ≡ final_of ending ∷ []
  pub says : reported core.latest
  pub reached : IsReached core.latest ending
  pub stays_open : ending ≡ StillOpen → source_ended ≡ true
