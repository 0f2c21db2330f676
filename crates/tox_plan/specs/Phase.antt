-- What the phase of a runner says: whether no further cut is to be found, the ending, whether it was reported that the source has ended,
-- and whether nothing is left of the offered piece.
use Rattle.std.specs.Prelude.{Bool, true, false, Option, Some, None}
use Rattle.tox_time.specs.declared.streams.ending.Ending.{Ending}
use Rattle.tox_plan.specs.declared.phase.Phase.{Phase}
use Rattle.tox_plan.specs.declared.phase.Phase.TheVariants.{Cutting, Drained, Idle, Closing, Ended, Finished}

pub record PhaseView : Type 0 where
  pub drained : Bool
  pub ending : Option Ending
  pub finished : Bool
  pub idle : Bool

abbrev pub phase_view : Phase → PhaseView
phase_view Cutting = record { drained = false; ending = None; finished = false; idle = false }
phase_view Drained = record { drained = true; ending = None; finished = false; idle = false }
phase_view Idle = record { drained = true; ending = None; finished = false; idle = true }
phase_view (Closing last) = record { drained = true; ending = Some last; finished = false; idle = false }
phase_view (Ended last) = record { drained = true; ending = Some last; finished = false; idle = true }
phase_view (Finished last) = record { drained = true; ending = Some last; finished = true; idle = true }
