-- A direction that is driven by events: what it holds, and what came, was noted and was written so far.
use Rattle.std.specs.Prelude.{◌≡◌, ℕ, ◌+◌, ◌*◌, ◌<◌, ◌≤◌, ◌^◌, false, List, [], ◌∷◌, ◌++◌, length, take, drop, Option, None, IfSome, is_some}
use Rattle.std.specs.Io.KnownBytes.{append_known}
use Rattle.tox_time.specs.declared.streams.item.Item.{Item}
use Rattle.tox_defs.specs.declared.operations.op.Op.{Op}
use Rattle.tox_lend.specs.Window.{JoinUpTo, start_of}
use Rattle.tox_link.specs.declared.direction.polled_link.PolledLink.{PolledLink}
use Rattle.tox_link.specs.declared.direction.unwritten.Unwritten.{Unwritten}
use Rattle.tox_link.specs.declared.notes.LinkEvent.{LinkEvent}
use Rattle.tox_link.specs.declared.notes.LinkEvent.TheVariants.{Wrote}
use Rattle.tox_link.specs.declared.source_ending.SourceEnding.{SourceEnding}
use Rattle.tox_link.specs.declared.source_ending.SourceEnding.TheVariants.{NotReached}
use Rattle.tox_link.specs.log.Carried.{Carried}
use Rattle.tox_link.specs.link_core.Core.{core_ending, core_position, kept_count, kept_lens, kept_start}
use Rattle.tox_link.specs.link_core.NewCore.{room_of}
use Rattle.tox_link.specs.steps.Held.{AreOf}
use Rattle.tox_link.specs.log.Log.{has_source_end, IsFaithful}
use Rattle.tox_link.specs.ring.Messages.{IsUnsent}
use Rattle.tox_link.specs.Sources.{read_end_of}

-- what is noted once the slices that are being written have reached their ends
abbrev pub unsaid : List Unwritten → List LinkEvent
unsaid [] = []
unsaid (unwritten ∷ more) = Wrote unwritten.slice unwritten.reading ∷ unsaid more

-- where slices up to a position start
abbrev pub first_start : ℕ → List Unwritten → ℕ
first_start position [] = position
first_start position (unwritten ∷ more) = unwritten.slice.span.start

-- nonempty slices without gaps, the last of which stops at this position
abbrev pub AreJoined : ℕ → List Unwritten → Type 0
AreJoined position [] = Unit {0}
AreJoined position (unwritten ∷ more) =
    (unwritten.slice.span.start < unwritten.slice.span.stop) × (unwritten.slice.span.stop ≡ first_start position more) × AreJoined position more

-- each slice was given to be written at a reading that the clock reported, at or past the slice's instant
abbrev pub AreBegun : (ℕ → Type 0) → List Unwritten → Type 0
AreBegun reported [] = Unit {0}
AreBegun reported (unwritten ∷ more) =
    reported unwritten.reading × (unwritten.slice.instant ≤ unwritten.reading) × AreBegun reported more

-- what is written stops within the slices that are being written, or else where the core's next slice starts
pub record IsUpTo (slices : List Unwritten) (written position : ℕ) : Type 0 where
  pub joined : AreJoined position slices
  pub from_start : first_start position slices ≤ written
  pub to_position : written ≤ position

-- the window holds the pieces from the next byte to be written on, up to the last that the core took
pub record IsHeld (link : PolledLink) : Type 0 where
  pub stop : link.window.stop ≡ link.core.bytes
  pub joined : JoinUpTo link.window.stop link.window.held
  pub start : start_of link.window.stop link.window.held ≤ link.written
  pub within : core_position link.core ≤ link.core.bytes
  pub few : link.core.bytes ≤ 2 ^ 40
  pub up_to : IsUpTo link.unwritten.items link.written (core_position link.core)
  pub going : link.ended ≡ false → link.core.ended ≡ false
  pub unheard : link.ended ≡ false → read_end_of link.source ≡ None

-- nothing came yet
pub record IsNew (link : PolledLink) : Type 0 where
  pub position : core_position link.core ≡ 0
  pub bytes : link.core.bytes ≡ 0
  pub latest : link.core.latest ≡ 0
  pub none_kept : (kept_lens link.core ≡ []) × (kept_start link.core ≡ 0)
  pub going : link.core.ended ≡ false
  pub held : link.window.held ≡ []
  pub stop : link.window.stop ≡ 0
  pub unwritten : link.unwritten.items ≡ []
  pub source : link.source ≡ NotReached
  pub ended : link.ended ≡ false
  pub written : link.written ≡ 0

-- core and window have room for as many pieces as a plan with these operations needs
pub record HasRoomOf (ops : List Op) (link : PolledLink) : Type 0 where
  pub core : link.core.room ≡ room_of ops
  pub window : link.window.room ≡ room_of ops

-- so many bytes may be taken, in pieces of 16,384
pub record HasRoomFor (count : ℕ) (link : PolledLink) : Type 0 where
  pub pieces : ℕ
  pub going : link.ended ≡ false
  pub few : count ≤ 16_384 * pieces
  pub core : kept_count link.core + pieces ≤ link.core.room
  pub window : core_ending link.core ≡ None → length link.window.held + pieces ≤ link.window.room

-- these bytes came, these events were noted and these bytes are written: all that the plan means up to here, but for the slices
-- that are being written
pub record Follows (means : List Item → List Item) (reported : ℕ → Type 0) (link : PolledLink) (log : List LinkEvent) (came : List ℕ)
    (before written : Option (List ℕ)) : Type 0 where
  pub carried : Carried means reported link.core (log ++ unsaid link.unwritten.items)
  pub faithful : IsFaithful means reported log
  pub closed : has_source_end log ≡ is_some (read_end_of link.source)
  pub parts : AreOf came link.window.held
  pub few : link.core.bytes ≤ length came
  pub live : link.ended ≡ false → core_ending link.core ≡ None → link.core.bytes ≡ length came
  pub unsent : IfSome (read_end_of link.source) (λ end. IsUnsent end (take link.core.bytes came) (drop link.core.bytes came))
  pub wrote : written ≡ append_known before (take link.written came)

-- a step in which these bytes came and these events were noted
abbrev pub Drives : (ℕ → Type 0) → PolledLink → Option (List ℕ) → List ℕ → List LinkEvent → PolledLink → Option (List ℕ) → Type 0
Drives reported old written bytes more new written_after =
    (means : List Item → List Item) (log : List LinkEvent) (came : List ℕ) (before : Option (List ℕ))
    → Follows means reported old log came before written
    → Follows means reported new (log ++ more) (came ++ bytes) before written_after

-- a step in which nothing came: what was still to be noted of the slices is noted now, or still to be noted
pub record WritesOn (old : PolledLink) (written : Option (List ℕ)) (more : List LinkEvent) (new : PolledLink) (written_after : Option (List ℕ)) : Type 0 where
  pub core : new.core ≡ old.core
  pub source : new.source ≡ old.source
  pub ended : new.ended ≡ old.ended
  pub noted : more ++ unsaid new.unwritten.items ≡ unsaid old.unwritten.items
  pub parts : (came : List ℕ) → AreOf came old.window.held → AreOf came new.window.held
  pub wrote : (came : List ℕ) (before : Option (List ℕ)) → AreOf came old.window.held → written ≡ append_known before (take old.written came)
      → written_after ≡ append_known before (take new.written came)

-- these bytes were read last and are not kept, where the source ended so
abbrev pub AreLeftOver : PolledLink → SourceEnding → List ℕ → Type 0
AreLeftOver link source bytes =
    (came : List ℕ) → link.core.bytes ≡ length came → IfSome (read_end_of source) (λ end. IsUnsent end came bytes)
