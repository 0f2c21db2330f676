-- What is read of an input, and what a fault says of it.
use Rattle.std.specs.Prelude.{◌≡◌, ℕ, ◌<◌, ◌≤◌, Bool, true, List, length, Option, Err}
use Rattle.std.specs.Io.KnownBytes.{prepend_known, IsAtEnd}
use Rattle.tox_text.specs.declared.fault.DryFault.{DryFault}
use Rattle.tox_text.specs.declared.fault.DryFault.TheVariants.{OutOfMemory, BadLine, TooLong, ReadFault, WriteFault, Arrival}
use Rattle.tox_runs.specs.declared.runs.whole_input.InputFault.{InputFault}
use Rattle.tox_runs.specs.declared.runs.whole_input.InputFault.TheVariants as input
use Rattle.tox_text.specs.arrivals.ArrivalsText.{arrivals_of}

-- a text was read: the reader gave it, and is at its end
pub record ReadsWhole (before after : Option (List ℕ)) (text : List ℕ) : Type 0 where
  pub given : before ≡ prepend_known text after
  pub ended : IsAtEnd after
  pub short : length text ≤ 16777216

-- the reader gave at most so many bytes
pub record TakesAtMost (most : ℕ) (before after : Option (List ℕ)) : Type 0 where
  pub taken : List ℕ
  pub given : before ≡ prepend_known taken after
  pub few : length taken ≤ most

-- the reader gave more bytes than an input may have
pub record IsTooLong (before after : Option (List ℕ)) : Type 0 where
  pub taken : List ℕ
  pub given : before ≡ prepend_known taken after
  pub long : 16777216 < length taken

-- why an input was not read whole
abbrev pub HasInputCause : Option (List ℕ) → Option (List ℕ) → Bool → InputFault → Type 0
HasInputCause before after failed input.OutOfMemory = Unit {0}
HasInputCause before after failed input.TooLong = IsTooLong before after
HasInputCause before after failed input.ReadFault = failed ≡ true

-- why an input was not read whole, as a fault of a dry run
abbrev pub dry_fault : InputFault → DryFault
dry_fault input.OutOfMemory = OutOfMemory
dry_fault input.TooLong = TooLong
dry_fault input.ReadFault = ReadFault

-- a text was read whose first fault is this one
pub record SpellsFault (before after : Option (List ℕ)) (fault : DryFault) : Type 0 where
  pub text : List ℕ
  pub read : ReadsWhole before after text
  pub first : arrivals_of text ≡ Err fault

-- why a dry run answers a fault: of the reader's bytes, or since the reader or the writer has failed
abbrev pub HasCause : Option (List ℕ) → Option (List ℕ) → Bool → Bool → DryFault → Type 0
HasCause before after read_failed write_failed OutOfMemory = Unit {0}
HasCause before after read_failed write_failed (BadLine n) = SpellsFault before after (BadLine n)
HasCause before after read_failed write_failed TooLong = IsTooLong before after
HasCause before after read_failed write_failed ReadFault = read_failed ≡ true
HasCause before after read_failed write_failed WriteFault = write_failed ≡ true
HasCause before after read_failed write_failed (Arrival fault n) =
    SpellsFault before after (Arrival fault n)
