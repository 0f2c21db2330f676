-- Finals and endings.
use Rattle.std.proofs.Common.{◌≡◌, [], ◌∷◌, refl, arith}
use Rattle.tox_time.specs.declared.streams.ending.Ending.{Ending}
use Rattle.tox_time.specs.declared.streams.ending.Ending.TheVariants.{StillOpen, Closed as ClosedAt, Reset as ResetAt}
use Rattle.tox_time.specs.streams.Stream.{IsStream}
use Rattle.tox_time.specs.streams.Table.{ending, final_of}
use Rattle.tox_defs.specs.operations.Op.{EndsInTime}

pub ending-final_of : (end : Ending) → ending (final_of end ∷ []) ≡ end
ending-final_of StillOpen = refl
ending-final_of (ClosedAt t) = refl
ending-final_of (ResetAt t) = refl

pub IsStream-final : (ending : Ending) → EndsInTime ending → IsStream (final_of ending ∷ [])
IsStream-final StillOpen fits = refl
IsStream-final (ClosedAt t) fits = (omega arith, fits, refl)
IsStream-final (ResetAt t) fits = (omega arith, fits, refl)
