-- A log whose front has left it.
use Rattle.std.specs.Prelude.{◌≡◌, ℕ, List, ◌++◌, length}
use Rattle.tox_log.specs.declared.files.log_text.LogText.{LogText}
use Rattle.tox_log.specs.files.LogSteps.{IsLogOf}

-- what left a log before, and what waits, are the log of a text that was given
pub record HasLogOf (log : LogText) (taken logged : List ℕ) : Type 0 where
  pub counted : length taken ≡ log.taken
  pub bytes : IsLogOf log.most logged (taken ++ log.waiting.0) log.state
