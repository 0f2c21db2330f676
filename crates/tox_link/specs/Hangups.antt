-- How a link is hung up.
use Rattle.std.specs.Prelude.{◌≡◌, ℕ, ◌⊎◌, Bool, true, false, List, [], ◌∷◌, ◌++◌, Option, Some, None, IfSome}
use Rattle.tox_time.specs.declared.streams.ending.Ending.{Ending}
use Rattle.tox_time.specs.declared.streams.ending.Ending.TheVariants.{StillOpen, Reset}
use Rattle.tox_link.specs.declared.link_fault.LinkFault.{LinkFault}
use Rattle.tox_link.specs.declared.ring.message.Message.{Message}
use Rattle.tox_link.specs.declared.ring.message.ReadEnd.{ReadEnd}
use Rattle.tox_link.specs.declared.notes.LinkEvent.{LinkEvent}
use Rattle.tox_link.specs.log.Carried.{IsBy}
use Rattle.tox_link.specs.ring.Messages.{has_end}
use Rattle.tox_link.specs.Reports.{is_write_fault, written_before}

-- a call: how the link ended, and whether the source's end was taken
abbrev pub Call : Type 0
Call = Ending × Bool

-- the calls that are kept, and then this one
abbrev pub with_call : Option (List Call) → Ending → Bool → Option (List Call)
with_call None ending source_ended = None
with_call (Some calls) ending source_ended = Some (calls ++ (ending, source_ended) ∷ [])

-- a link that took these messages and ended so was hung up once, as it ended, and with whether the source's end was among them;
-- it was, where the link stays open and where it learnt why the reading ended
pub record HangsUp (old new : Option (List Call)) (taken : List Message) (ending : Ending) (source : Option ReadEnd) : Type 0 where
  pub called : new ≡ with_call old ending (has_end taken)
  pub stays_open : ending ≡ StillOpen → has_end taken ≡ true
  pub known : IfSome source (λ _. has_end taken ≡ true)

-- 0 or a reading that the clock reported, and none of the log is above it
pub record IsResetAt (reported : ℕ → Type 0) (log : List LinkEvent) (t : ℕ) : Type 0 where
  pub read : (t ≡ 0) ⊎ reported t
  pub by : IsBy t log

-- a link with this log that broke off was hung up once, by a reset; or not at all, before anything was noted or written, and then no
-- write failed
abbrev pub BreaksOff : (ℕ → Type 0) → List LinkEvent → Option (List Call) → Option (List Call) → LinkFault → Type 0
BreaksOff reported log old new fault =
    ((new ≡ old) × (log ≡ []) × (written_before fault ≡ 0) × (is_write_fault fault ≡ false))
    ⊎ ((t : ℕ) × (new ≡ with_call old (Reset t) false) × IsResetAt reported log t)
