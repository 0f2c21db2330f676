-- What a run of stages answers and leaves written, where it fails.
use Rattle.std.specs.Prelude.{◌≡◌, ℕ, Bool, List, Option}
use Rattle.tox_defs.specs.chain.Chain.{Toxics}
use Rattle.tox_runs.specs.declared.runs.fault.StagesFault.{StagesFault}
use Rattle.tox_runs.specs.declared.runs.fault.StagesFault.TheVariants.{Dry, Stages}
use Rattle.tox_text.specs.arrivals.ArrivalsText.{Arrived}
use Rattle.tox_runs.specs.runs.Reading.{HasCause}
use Rattle.tox_runs.specs.runs.DryRun.{ParsesInput, DryLeaves}

-- why a run of stages answers a fault: as a dry run, or of its stages, where the text has no fault
abbrev pub HasStagesCause : Option (List ℕ) → Option (List ℕ) → Bool → Bool → StagesFault → Type 0
HasStagesCause before after read_failed write_failed (Dry fault) =
    HasCause before after read_failed write_failed fault
HasStagesCause before after read_failed write_failed (Stages fault) =
    (arrived : Arrived) × ParsesInput before after arrived

-- what a fault leaves written: nothing after one of the stages
abbrev pub StagesLeave : Toxics → List ℕ → Option (List ℕ) → Option (List ℕ) → Option (List ℕ)
    → Option (List ℕ) → StagesFault → Type 0
StagesLeave chain words before after old new (Dry fault) =
    DryLeaves chain words before after old new fault
StagesLeave chain words before after old new (Stages fault) = new ≡ old

-- why a run of stages answers this fault, and what it then leaves written
pub record StopsStages (chain : Toxics) (words : List ℕ) (before after old new : Option (List ℕ))
    (read_failed write_failed : Bool) (fault : StagesFault) : Type 0 where
  pub cause : HasStagesCause before after read_failed write_failed fault
  pub left : StagesLeave chain words before after old new fault
