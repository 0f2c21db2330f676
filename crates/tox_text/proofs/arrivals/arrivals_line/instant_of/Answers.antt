-- A digit more. Sixteen of them fit 64 bits.
use Rattle.std.proofs.Common.{◌≡◌, ◌^◌, ◌<◌, ◌*◌, ◌+◌, arith, sym, ◌∙◌, ap}
use Rattle.tox_text.proofs.Digits.{digits_more, value_below, value_more}
use Rattle.tox_text.proofs.arrivals.arrivals_line.instant_of.Goals as goal

pub overflow_mul-micros : goal.overflow_mul-micros
overflow_mul-micros c =
    let on = c.loop-digit.invariant in
    omega (arith, on.value, value_below c.args.text.now c.loop-digit.digit-index c.loop-digit-test.true (omega arith) on.digits)

pub overflow_add-micros : goal.overflow_add-micros
overflow_add-micros c =
    let on = c.loop-digit.invariant in
    omega (
      arith,
      on.value,
      value_below c.args.text.now c.loop-digit.digit-index c.loop-digit-test.true (omega arith) on.digits,
      c.type_inv.text c.loop-digit.digit-index,
    )

pub loop-digit-preserved : goal.loop-digit-preserved
loop-digit-preserved c =
    let on = c.loop-digit.invariant in
    let digit = sym c.is_ascii_digit.ensures.value ∙ c.if-not-is_ascii_digit.false in
    record {
      digits = digits_more c.args.text.now c.loop-digit.digit-index c.loop-digit-test.true on.digits digit;
      value = omega (arith, on.value, c.from.ensures, value_more c.args.text.now c.loop-digit.digit-index c.loop-digit-test.true digit);
    }
