-- What is known of a direction that is ready, in parts.
use Rattle.std.proofs.Common.{◌≡◌, ℕ, ◌≤◌, ◌⊎◌, inl, inr, Bool, true, None, IfSome, arith}
use Rattle.tox_link.specs.declared.source_ending.SourceEnding.{SourceEnding}
use Rattle.tox_link.specs.declared.source_ending.SourceEnding.TheVariants.{Eof, ReadFault, ReadsUsedUp, TooManyBytes, NotReached}
use Rattle.tox_time.specs.Time.{IsInstant}
use Rattle.tox_link.specs.ring.Messages.{EndsFor}
use Rattle.tox_link.specs.Sources.{read_end_of}

-- why a source ended that tells no bytes, whatever number of reads was allowed
abbrev pub HasCause : SourceEnding → Bool → Type 0
HasCause source failed = IfSome (read_end_of source) (λ end. (reads count : ℕ) → EndsFor end reads count None failed)

pub fault-of : (source : SourceEnding) (failed : Bool) → HasCause source failed → source ≡ ReadFault → failed ≡ true
fault-of Eof failed cause same = cc
fault-of ReadFault failed cause same = cause 0 0
fault-of ReadsUsedUp failed cause same = cc
fault-of TooManyBytes failed cause same = cc
fault-of NotReached failed cause same = cc

pub unlimited-of : (source : SourceEnding) (failed : Bool) → HasCause source failed → ¬ (source ≡ ReadsUsedUp)
unlimited-of Eof failed cause same = cc
unlimited-of ReadFault failed cause same = cc
unlimited-of ReadsUsedUp failed cause same = let none : 1 ≤ 0 = cause 1 0 in omega arith
unlimited-of TooManyBytes failed cause same = cc
unlimited-of NotReached failed cause same = cc

-- the last instant of a direction that is ready
pub instant-of : (latest : ℕ) → (latest ≡ 0) ⊎ IsInstant latest → IsInstant latest
instant-of latest (inl none) = omega (arith, none)
instant-of latest (inr bound) = bound
