-- The populate file was read before the script.
use Rattle.std.proofs.Common.{inl, inr}
use Rattle.std.proofs.lemmas.Result.{err_from_is_err_and}
use Rattle.tox_runs.proofs.files.setup.read_setup.Goals as goal

pub returns-in_err-proxies-clause-fault : goal.returns-in_err-proxies-clause-fault
returns-in_err-proxies-clause-fault g c =
    let exit = err_from_is_err_and c.from_residual.result c.from_residual.ensures.1 in
    rw (exit.1, exit.2) (inl c.in_err-proxies.ensures.fault)

pub returns-in_err-script-clause-fault : goal.returns-in_err-script-clause-fault
returns-in_err-script-clause-fault g c =
    let exit = err_from_is_err_and c.from_residual-in_err-script.result c.from_residual-in_err-script.ensures.1 in
    rw (exit.1, exit.2) (inr (record { proxies = c.in_ok-proxies.proxies.items; populates = c.in_ok-proxies.ensures.ok }, c.in_err-script.ensures.fault))
