-- The writer's side of a link, and what holds of it between two steps.
use Rattle.std.specs.Prelude.{◌≡◌, ℕ, ◌≤◌, false, true, List, [], ◌∷◌, ◌++◌, length, take, Option, Some, None}
use Rattle.std.specs.Io.KnownBytes.{append_known}
use Rattle.rtrb.specs.Ring.{received}
use Rattle.tox_time.specs.declared.streams.slice.Slice.{Slice}
use Rattle.tox_lend.specs.Window.{JoinUpTo, start_of}
use Rattle.tox_link.specs.declared.ring.message.Message.{Message}
use Rattle.tox_link.specs.declared.ring.message.Message.TheVariants.{End}
use Rattle.tox_link.specs.declared.ring.message.ReadEnd.{ReadEnd}
use Rattle.tox_link.specs.declared.source_ending.SourceEnding.TheVariants.{NotReached}
use Rattle.tox_link.specs.declared.carrying.writer_side.WriterSide.{WriterSide}
use Rattle.tox_link.specs.link_core.Core.{CoreView, TakesSlice, KeepsCore, core_ending, core_position, kept_lens, kept_start}
use Rattle.tox_link.specs.steps.Held.{AreOf}
use Rattle.tox_link.specs.ring.Messages.{bytes_of, has_end, Allows}
use Rattle.tox_link.specs.Sources.{read_end_of}

-- the bytes that came through the ring
abbrev pub came : WriterSide → List ℕ
came side = bytes_of (received side.inbox.receiver)

-- what was written of what came is a front of it before a step and after it
abbrev pub WritesFront : WriterSide → WriterSide → Option (List ℕ) → Option (List ℕ) → Type 0
WritesFront old new written written_after =
    (base : Option (List ℕ)) → written ≡ append_known base (take old.written (came old))
    → written_after ≡ append_known base (take new.written (came new))

-- nothing came yet
pub record IsFresh (side : WriterSide) : Type 0 where
  pub position : core_position side.core ≡ 0
  pub bytes : side.core.bytes ≡ 0
  pub latest : side.core.latest ≡ 0
  pub none_kept : (kept_lens side.core ≡ []) × (kept_start side.core ≡ 0)
  pub going : side.core.ended ≡ false
  pub held : side.window.held ≡ []
  pub stop : side.window.stop ≡ 0
  pub received : received side.inbox.receiver ≡ []
  pub source : side.source ≡ NotReached
  pub ended : side.ended ≡ false
  pub written : side.written ≡ 0

-- all bytes of the messages were taken, and the last message is the source's end
pub record TookAll (side : WriterSide) (messages : List Message) (end : ReadEnd) : Type 0 where
  pub ended : side.ended ≡ true
  pub bytes : side.core.bytes ≡ length (bytes_of messages)
  pub before : List Message
  pub last : messages ≡ before ++ End end ∷ []

-- after these messages the window holds their bytes from the next slice on, and the core counts them
pub record IsSound (side : WriterSide) (messages : List Message) : Type 0 where
  pub written : side.written ≡ core_position side.core
  pub within : core_position side.core ≤ side.core.bytes
  pub stop : side.window.stop ≡ side.core.bytes
  pub joined : JoinUpTo side.window.stop side.window.held
  pub start : start_of side.window.stop side.window.held ≤ core_position side.core
  pub parts : AreOf (bytes_of messages) side.window.held
  pub few : side.core.bytes ≤ length (bytes_of messages)
  pub live : side.ended ≡ false → core_ending side.core ≡ None → side.core.bytes ≡ length (bytes_of messages)
  pub going : side.ended ≡ false → side.core.ended ≡ false
  pub reported : side.ended ≡ has_end messages
  pub whole : (end : ReadEnd) → read_end_of side.source ≡ Some end → TookAll side messages end

-- a sound side at which this message has just come
pub record Comes (side : WriterSide) (message : Message) : Type 0 where
  pub before : List Message
  pub sound : IsSound side before
  pub going : side.ended ≡ false
  pub came : received side.inbox.receiver ≡ before ++ message ∷ []
  pub allowed : Allows before message

-- a sound side whose core has just given this slice to be written
pub record GivesSlice (side : WriterSide) (slice : Slice) : Type 0 where
  pub before : CoreView
  pub sound : IsSound (record side { core = before }) (received side.inbox.receiver)
  pub takes : TakesSlice before side.core slice
  pub kept : KeepsCore before side.core
