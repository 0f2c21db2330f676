-- What a direction keeps between two drives has one proof at most.
use Rattle.std.specs.Prelude.{ℕ, List, [], ◌∷◌}
use mathlib.Core.HLevel.{Unit-prop}
use Rattle.std.proofs.Props.{props}
use Rattle.tox_lend.specs.Run.{Run}
use Rattle.tox_lend.specs.Window.{JoinUpTo}
use Rattle.tox_link.specs.declared.direction.polled_link.PolledLink.{PolledLink}
use Rattle.tox_link.specs.declared.direction.unwritten.Unwritten.{Unwritten}
use Rattle.tox_link.specs.direction.Follows.{AreBegun, AreJoined, IsHeld}
use Rattle.tox_time.specs.Time.{IsInstant}

pub JoinUpTo-prop : (stop : ℕ) (pieces : List Run) → IsProp (JoinUpTo stop pieces)
JoinUpTo-prop stop [] = Unit-prop
JoinUpTo-prop stop (piece ∷ pieces) = Prim.hlevel (JoinUpTo-prop stop pieces, props)

pub AreJoined-prop : (position : ℕ) (slices : List Unwritten) → IsProp (AreJoined position slices)
AreJoined-prop position [] = Unit-prop
AreJoined-prop position (unwritten ∷ more) = Prim.hlevel (AreJoined-prop position more, props)

pub AreBegun-prop : (slices : List Unwritten) → IsProp (AreBegun (λ t. IsInstant t) slices)
AreBegun-prop [] = Unit-prop
AreBegun-prop (unwritten ∷ more) = Prim.hlevel (AreBegun-prop more, props)

pub IsHeld-prop : (link : PolledLink) → IsProp (IsHeld link)
IsHeld-prop link = Prim.hlevel (JoinUpTo-prop, AreJoined-prop, props)
