-- The sign, and then the digits.
use Rattle.std.proofs.Common.{◌≡◌, rules}
use Rattle.tox_text.proofs.Printings.{Prints-failed, Prints-then}
use Rattle.tox_text.proofs.names.print_escape.Goals as goal

pub returns-in_err-put : goal.returns-in_err-put
returns-in_err-put g c =
    let sign : c.as_bytes.result.now ≡ c.args.escape.sign.now = search rules in
    Prints-failed _ c.from_residual.ensures.1 (rw sign at c.in_err-put.ensures)

pub returns : goal.returns
returns g c =
    let sign : c.as_bytes.result.now ≡ c.args.escape.sign.now = search rules in
    Prints-then (rw sign at c.in_ok-put.ensures) c.put_hex.ensures
