-- Digits that `parse` doesn't read write a number of more than 64 bits, or none.
use Rattle.std.proofs.Common.{arith, sym}
use Rattle.tox_time.proofs.Numbers.{decimal_unread}
use Rattle.tox_time.proofs.text.parse_decimal.Goals as goal

pub returns-in_default : goal.returns-in_default
returns-in_default c =
    decimal_unread c.args.digits c.args.greatest c.args.text.now c.parse.result _ c.in_default.is (sym c.if-not-are_digits.ensures) (omega arith)
    c.parse.ensures.value.0
