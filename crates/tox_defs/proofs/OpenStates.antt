-- States that have given no final, and whether givings give one.
use Rattle.std.proofs.Common.{◌≡◌, ℕ, zero, suc, max, true, false, List, [], ◌∷◌, ◌++◌, refl}
use Rattle.tox_time.specs.declared.streams.span.Span.{Span}
use Rattle.tox_time.specs.declared.streams.ending.Ending.{Ending}
use Rattle.tox_time.specs.declared.streams.ending.Ending.TheVariants.{StillOpen, Closed, Reset}
use Rattle.tox_time.specs.streams.Table.{final_of}
use Rattle.tox_time.specs.Time.{plus}
use Rattle.tox_time.specs.streams.Stream.{span_len, has_final}
use Rattle.tox_defs.specs.declared.operations.state.State.{State}
use Rattle.tox_defs.specs.toxics.FirstBytes.{first_bytes}
use Rattle.tox_defs.specs.toxics.Pieces.{leave}

-- a state that has given no final
abbrev pub open_state : ℕ → ℕ → ℕ → ℕ → State
open_state previous chunks pieces passed = record { previous = previous; chunks = chunks; pieces = pieces; passed = passed; done = false }

pub has_final-leave : (wait : ℕ → ℕ) (since t : ℕ) (spans : List Span) → has_final (leave wait since t spans) ≡ false
has_final-leave wait since t [] = refl
has_final-leave wait since t (span ∷ spans) = has_final-leave wait (plus (max since t) (wait (span_len span))) t spans

pub has_final-first_bytes : (n : ℕ) (span : Span) (t : ℕ) (end : Ending) → has_final (first_bytes n span t ++ (final_of end ∷ [])) ≡ true
has_final-first_bytes zero span t StillOpen = refl
has_final-first_bytes zero span t (Closed end) = refl
has_final-first_bytes zero span t (Reset end) = refl
has_final-first_bytes (suc n) span t StillOpen = refl
has_final-first_bytes (suc n) span t (Closed end) = refl
has_final-first_bytes (suc n) span t (Reset end) = refl
