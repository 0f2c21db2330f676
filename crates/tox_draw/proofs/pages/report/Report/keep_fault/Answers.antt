-- A row tells the fault, unless memory is refused.
use Rattle.tox_draw.proofs.pages.Kept.{RefusesLog-bad}
use Rattle.tox_draw.proofs.pages.report.Report.keep_fault.Goals as goal
use Rattle.tox_draw.proofs.pages.report.Report.keep_fault.Goals.{in-OutOfMemory, in_default}

pub returns-in-Ok-clause-left : goal.returns-in-Ok-clause-left
returns-in-Ok-clause-left c =
    elim c.match-matches.branch [
      | in-OutOfMemory w ↦ let no : ⊥ = cc in absurd no
      | in_default w ↦ RefusesLog-bad _ _ _ _ w.in_default.not-OutOfMemory c.in-Ok.ensures.ok
    ]
