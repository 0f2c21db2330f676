-- A toxic that is told to change nothing changes nothing.
use Rattle.std.proofs.Common.{◌≡◌, ℕ, Bool, true, false, Some, refl}
use Rattle.std.specs.Prelude.{IsSome}
use Rattle.std.specs.List.{slice_get}
use Rattle.tox_defs.specs.declared.chain.Entry.{Entry}
use Rattle.tox_defs.specs.chain.Chain.{Toxics, IsChain}
use Rattle.tox_defs.specs.Flow.{toxic_effect}
use Rattle.tox_check.specs.Idle.{ChangesNothing, cuts_last, has_no_time, is_lost, reason}
use Rattle.tox_check.proofs.NoTime.{no_time-same}
use Rattle.tox_check.proofs.SamePlan.{flow-same}
use Rattle.tox_check.proofs.SlicedLast.{cuts_last-same}

pub unchanged : (chain : Toxics) (k : ℕ) (entry : Entry) → IsChain chain → slice_get chain.entries k ≡ Some entry → IsSome (reason k entry.toxic chain.entries)
    → ChangesNothing k chain
unchanged chain k entry fits found some =
    by (toxic_effect entry.toxic).does_nothing (has_no_time entry.toxic) (is_lost k entry.toxic chain.entries) (cuts_last k entry.toxic chain.entries) refl refl
    refl refl
  where
    by : (nothing never lost last : Bool) → (toxic_effect entry.toxic).does_nothing ≡ nothing → has_no_time entry.toxic ≡ never
        → is_lost k entry.toxic chain.entries ≡ lost → cuts_last k entry.toxic chain.entries ≡ last
        → ChangesNothing k chain
    by true never lost last a b c d = flow-same chain k entry fits found (rw a refl)
    by false true lost last a b c d = no_time-same chain k entry fits found b
    by false false true last a b c d = flow-same chain k entry fits found (rw (a, c) refl)
    by false false false true a b c d = cuts_last-same chain k entry fits found d
    by false false false false a b c d = let none : false ≡ true = rw (a, b, c, d) at some in absurd (cc)
