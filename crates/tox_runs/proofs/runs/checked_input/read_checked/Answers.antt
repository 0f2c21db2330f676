-- The text's own fault.
use Rattle.std.proofs.lemmas.Result.{err_from_is_err_and}
use Rattle.tox_runs.proofs.Causes.{HasCause-spelled}
use Rattle.tox_runs.proofs.runs.checked_input.read_checked.Goals as goal

pub returns-in_err-longest-clause-cause : goal.returns-in_err-longest-clause-cause
returns-in_err-longest-clause-cause g c =
    let p = err_from_is_err_and c.from_residual-in_err-longest.result c.from_residual-in_err-longest.ensures.1 in
    rw (p.1, p.2) (HasCause-spelled _ _ _ _ c.in_ok-text.text.items c.in_err-longest.field-0.0 c.in_ok-text.ensures.ok
    (λ named. rw c.deref.ensures.value at c.in_err-longest.ensures.fault))
