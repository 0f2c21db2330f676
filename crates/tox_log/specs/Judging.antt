-- A log under judgement: what the plan still has to say, beside what the log said.
use Rattle.std.specs.Prelude.{◌≡◌, ℕ, ◌+◌, ◌<◌, ◌≤◌, Bool, true, false, List, [], ◌∷◌, ◌++◌, replicate, nat_lt, if◌then◌else◌, Option, Some, None, IfSome}
use Rattle.tox_time.specs.declared.streams.slice.Slice.{Slice}
use Rattle.tox_time.specs.declared.streams.item.Item.{Item}
use Rattle.tox_time.specs.declared.streams.item.Item.TheVariants.{Quiet}
use Rattle.tox_time.specs.streams.Stream.{IsPrefix, IsStreamFrom, span_len}
use Rattle.tox_time.specs.declared.streams.ending.Ending.{Ending}
use Rattle.tox_time.specs.streams.Table.{table, slices_table, ending}
use Rattle.std.specs.List.{list_any}
use Rattle.tox_plan.specs.OpCursors.{ops_of}
use Rattle.tox_plan.specs.Unended.{IsUnended, leaves_open}
use Rattle.tox_link.specs.declared.link_core.act.Act.{Act}
use Rattle.tox_link.specs.declared.link_core.act.Act.TheVariants.{Write, WaitUntil, WaitForInput, End}
use Rattle.tox_link.specs.declared.notes.LinkEvent.{LinkEvent}
use Rattle.tox_link.specs.declared.ring.message.ReadEnd.{ReadEnd}
use Rattle.tox_link.specs.declared.ring.message.ReadEnd.TheVariants.{Eof}
use Rattle.tox_link.specs.link_core.Core.{CoreView, remaining_output, core_ending, core_position, kept_count}
use Rattle.tox_link.specs.log.Carried.{IsBy, KeepsLast}
use Rattle.tox_link.specs.log.Log.{heard_from, heard_bytes, has_source_end, said, reading_of, IsFaithful, IsGapless}
use Rattle.tox_link.specs.Reports.{ReportsAt}
use Rattle.tox_log.specs.declared.judge.Judge.{Judge}

-- the instants of what is left of a slice
abbrev pub rest_table : Option Slice → List ℕ
rest_table None = []
rest_table (Some slice) = replicate (span_len slice.span) slice.instant

-- the slice that an answer gives
abbrev pub slice_in : Act → Option Slice
slice_in (Write slice) = Some slice
slice_in (WaitUntil instant) = None
slice_in WaitForInput = None
slice_in (End last) = None

-- what is left of a slice from a position on
abbrev pub part_from : Slice → ℕ → Option Slice
part_from slice start =
    if nat_lt start slice.span.stop then Some (record slice { span = record slice.span { start = start } }) else None

-- what is left of a slice goes from what was said to where the core's next slice starts
abbrev pub IsRest : Option Slice → ℕ → ℕ → Type 0
IsRest None said_to position = said_to ≡ position
IsRest (Some slice) said_to position = (slice.span.start ≡ said_to) × (said_to < slice.span.stop) × (slice.span.stop ≡ position)

-- the core has heard of all that was heard, until its ending is known, what is left of a slice lies in the runner's piece, and the
-- judge knows whether its plan may leave the link open
pub record KeepsUp (judge : Judge) : Type 0 where
  pub ended : judge.core.ended ≡ judge.ended
  pub latest : judge.core.latest ≤ judge.latest
  pub live : core_ending judge.core ≡ None → judge.heard ≡ judge.core.bytes
  pub rest : IsRest judge.rest judge.said (core_position judge.core)
  pub opens : judge.opens ≡ list_any leaves_open (ops_of judge.core.runner.cursors)
  pub within : judge.ended ≡ false → IfSome judge.rest (λ slice. slice.span.stop ≤ judge.core.runner.piece.span.stop)

-- what was said up to a position, what the core gave since then, and what is to come are together what the plan means for what was
-- heard and goes on from there; the log is faithful, and no reading of it is above the last one; the core keeps the last pieces heard
pub record AddsUp (means : List Item → List Item) (reported : ℕ → Bool) (core : CoreView) (given : List ℕ) (heard latest : ℕ) (ended : Bool) (start : ℕ)
    (log : List LinkEvent) : Type 0 where
  pub tables : (items : List Item) → IsStreamFrom heard latest items → table (means (heard_from 0 log items))
      ≡ slices_table (said log) ++ (given ++ table (remaining_output core items))
  pub endings : (items : List Item) → IsStreamFrom heard latest items → ending (means (heard_from 0 log items)) ≡ ending (remaining_output core items)
  pub faithful : IsFaithful means (λ t. reported t ≡ true) log
  pub by : IsBy latest log
  pub gapless : IsGapless 0 (said log) start
  pub bytes : heard_bytes log ≡ heard
  pub closed : has_source_end log ≡ ended
  pub kept : ended ≡ false → core_ending core ≡ None → KeepsLast core log

-- a judge after a log, and after these instants of a slice that starts at a position
abbrev pub FollowsWith : (List Item → List Item) → (ℕ → Bool) → Judge → List ℕ → ℕ → List LinkEvent → Type 0
FollowsWith means reported judge front start log = AddsUp means reported judge.core (front ++ rest_table judge.rest) judge.heard judge.latest judge.ended start
    log

-- a judge after a log
abbrev pub Judged : (List Item → List Item) → (ℕ → Bool) → Judge → List LinkEvent → Type 0
Judged means reported judge log = FollowsWith means reported judge [] judge.said log

-- a step with no event
abbrev pub Stays : Judge → Judge → Type 0
Stays old new = (means : List Item → List Item) (reported : ℕ → Bool) (front : List ℕ) (start : ℕ) (log : List LinkEvent)
    → FollowsWith means reported old front start log → FollowsWith means reported new front start log

-- a step with an event
abbrev pub Hears : Judge → LinkEvent → Judge → Type 0
Hears old event new = (means : List Item → List Item) (reported : ℕ → Bool) (log : List LinkEvent) → reported (reading_of event) ≡ true
    → Judged means reported old log → Judged means reported new (log ++ event ∷ [])

-- where it keeps 1,024 pieces, the runner's ends behind what was said
abbrev pub HoldsUnsaid : Judge → Type 0
HoldsUnsaid judge = judge.ended ≡ false → 1_024 ≤ kept_count judge.core → judge.said < judge.core.runner.piece.span.stop

-- the next bytes of a slice that leaves at an instant are said
abbrev pub SaysPart : Judge → ℕ → Judge → Type 0
SaysPart old due new = (means : List Item → List Item) (reported : ℕ → Bool) (front : List ℕ) (start : ℕ) (log : List LinkEvent) (count : ℕ)
    → new.said ≡ old.said + count → FollowsWith means reported old front start log → FollowsWith means reported new (front ++ replicate count due) start log

-- the instants of what is to be said, if nothing else is heard
abbrev pub next_table : Judge → List ℕ
next_table judge = rest_table judge.rest ++ table (remaining_output judge.core (Quiet ∷ []))

-- so many bytes that leave at an instant are to be said next
abbrev pub Expects : Judge → ℕ → ℕ → Type 0
Expects judge count due = IsPrefix (replicate count due) (next_table judge)

-- no faithful log goes on with this event
abbrev pub Refuses : Judge → LinkEvent → Type 0
Refuses judge event = (means : List Item → List Item) (reported : ℕ → Bool) (log : List LinkEvent) → Judged means reported judge log
    → IsFaithful means (λ t. reported t ≡ true) (log ++ event ∷ []) → ⊥

-- all is said, and a link whose core knows no ending hasn't ended at a reading
abbrev pub HasSaidAll : Judge → ℕ → Type 0
HasSaidAll judge reading = (judge.rest ≡ None) × (core_ending judge.core ≡ None
    → IsUnended (ops_of judge.core.runner.cursors) (remaining_output judge.core) reading)

-- all is said, the core knows no ending, and some operation of the plan leaves the link open from an instant on
pub record MayStayOpen (judge : Judge) : Type 0 where
  pub said : judge.rest ≡ None
  pub unknown : core_ending judge.core ≡ None
  pub opens : list_any leaves_open (ops_of judge.core.runner.cursors) ≡ true

-- no link with this log reports this ending at a reading
abbrev pub HasNoReport : (List Item → List Item) → (ℕ → Bool) → List LinkEvent → ℕ → Ending → Type 0
HasNoReport means reported log reading last = (taken written : ℕ) (source : Option ReadEnd)
    → ReportsAt means (λ t. reported t ≡ true) log taken written last source reading → ⊥

-- no link with the log of a judge reports this ending at a reading
abbrev pub RefusesEnding : Judge → ℕ → Ending → Type 0
RefusesEnding judge reading last = (means : List Item → List Item) (reported : ℕ → Bool) (log : List LinkEvent) → Judged means reported judge log
    → HasNoReport means reported log reading last

-- how the source ended, if its end was heard
abbrev pub source_heard : Bool → Option ReadEnd
source_heard true = Some Eof
source_heard false = None
