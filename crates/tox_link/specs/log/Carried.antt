-- A link that is carried: its log beside its core.
use Rattle.std.specs.Prelude.{◌≡◌, ℕ, ◌≤◌, ◌^◌, ◌⊎◌, true, false, List, [], ◌∷◌, ◌++◌, Option, Some, None}
use Rattle.std.specs.List.{sum}
use Rattle.tox_time.specs.declared.streams.ending.Ending.{Ending}
use Rattle.tox_time.specs.declared.streams.item.Item.{Item}
use Rattle.tox_time.specs.streams.Stream.{IsStream, IsStreamFrom}
use Rattle.tox_time.specs.streams.Table.{table, slices_table, ending}
use Rattle.tox_link.specs.declared.link_core.act.Act.{Act}
use Rattle.tox_link.specs.declared.link_core.act.Act.TheVariants.{Write, WaitUntil, WaitForInput, End}
use Rattle.tox_link.specs.declared.notes.LinkEvent.{LinkEvent}
use Rattle.tox_link.specs.declared.notes.LinkEvent.TheVariants.{SourceEnd, Wrote}
use Rattle.tox_link.specs.link_core.Core.{CoreView, core_ending, core_position, kept_lens, kept_start, remaining_output}
use Rattle.tox_link.specs.log.Log.{heard_from, heard_bytes, heard_lens, has_source_end, said, reading_of, HasSmallPieces, IsFaithful, IsGapless}
use Rattle.tox_link.specs.log.Log.{IsShallowBehind}

-- no reading is above this one
abbrev pub IsBy : ℕ → List LinkEvent → Type 0
IsBy latest [] = Unit {0}
IsBy latest (event ∷ log) = (reading_of event ≤ latest) × IsBy latest log

-- the core keeps the last pieces that were heard, and of those before them no byte is still to be given
pub record KeepsLast (core : CoreView) (log : List LinkEvent) : Type 0 where
  pub given_up : List ℕ
  pub lens : heard_lens log ≡ given_up ++ kept_lens core
  pub start : sum given_up ≡ kept_start core
  pub before : kept_start core ≤ core_position core

-- what was said and what is to come are together what the plan means for what was heard and goes on from there;
-- the log is faithful, and its numbers are the core's: no slice passes the bytes that arrived, at most 2^40 in pieces of at most 16,384
pub record Carried (means : List Item → List Item) (reported : ℕ → Type 0) (core : CoreView) (log : List LinkEvent) : Type 0 where
  pub tables : (rest : List Item) → IsStreamFrom core.bytes core.latest rest
      → table (means (heard_from 0 log rest)) ≡ slices_table (said log) ++ table (remaining_output core rest)
  pub endings : (rest : List Item) → IsStreamFrom core.bytes core.latest rest → ending (means (heard_from 0 log rest)) ≡ ending (remaining_output core rest)
  pub stream : (rest : List Item) → IsStreamFrom core.bytes core.latest rest → IsStream (heard_from 0 log rest)
  pub faithful : IsFaithful means reported log
  pub by : IsBy core.latest log
  pub gapless : IsGapless 0 (said log) (core_position core)
  pub bytes : heard_bytes log ≡ core.bytes
  pub arrived : core_position core ≤ core.bytes
  pub few : core.bytes ≤ 2 ^ 40
  pub closed : has_source_end log ≡ true → core.ended ≡ true
  pub read : (core.latest ≡ 0) ⊎ reported core.latest
  pub shallow : IsShallowBehind [] log
  pub small : HasSmallPieces log
  pub kept : core.ended ≡ false → core_ending core ≡ None → KeepsLast core log

-- a core's last instant after another: it is 0 or a reading that the clock reported
pub record ReadsOn (reported : ℕ → Type 0) (earlier latest : ℕ) : Type 0 where
  pub read : (latest ≡ 0) ⊎ reported latest
  pub later : earlier ≤ latest

-- a step of the core with these events keeps the link carried
abbrev pub KeepsCarried : (ℕ → Type 0) → CoreView → List LinkEvent → CoreView → Type 0
KeepsCarried reported old more new = (means : List Item → List Item) (log : List LinkEvent) → Carried means reported old log
    → Carried means reported new (log ++ more)

-- what is noted of an answer once it is done
abbrev pub noted_of : Act → ℕ → List LinkEvent
noted_of (Write slice) now = Wrote slice now ∷ []
noted_of (WaitUntil instant) now = []
noted_of WaitForInput now = []
noted_of (End last) now = []

-- what is noted of the source's end: nothing once the ending of the link is known
abbrev pub noted_end : Option Ending → ℕ → List LinkEvent
noted_end (Some last) now = []
noted_end None now = SourceEnd now ∷ []
