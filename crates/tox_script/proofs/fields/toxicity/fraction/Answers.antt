-- One digit or two write a number that is small enough.
use Rattle.std.proofs.Common.{◌≡◌, ◌<◌, Some, arith, rules}
use Rattle.tox_time.specs.Text.{decimal_value}
use Rattle.tox_script.proofs.Decimals.{decimal_value-lt}
use Rattle.tox_script.proofs.fields.toxicity.fraction.Goals as goal

pub returns-in-1-clause-bound : goal.returns-in-1-clause-bound
returns-in-1-clause-bound c =
    let read : decimal_value 3 999 c.args.digits.now ≡ Some c.in_ok-number.number = search rules in
    let small : c.in_ok-number.number < 10 = decimal_value-lt 3 999 1 c.in_ok-number.number c.args.digits.now read (omega arith) in
    omega arith

pub returns-in-2-clause-bound : goal.returns-in-2-clause-bound
returns-in-2-clause-bound c =
    let read : decimal_value 3 999 c.args.digits.now ≡ Some c.in_ok-number.number = search rules in
    let small : c.in_ok-number.number < 100 = decimal_value-lt 3 999 2 c.in_ok-number.number c.args.digits.now read (omega arith) in
    omega arith
