-- A leading zero is printed of no number but 0.
use Rattle.std.proofs.Common.{length, get_or, ap, sym, ◌∙◌, arith}
use Rattle.tox_time.specs.Text.{decimal_value}
use Rattle.tox_log.proofs.Decimals.{no_zero, no-text, read-number}
use Rattle.tox_log.proofs.numbers.number_of.Goals as goal
use Rattle.tox_log.proofs.numbers.number_of.Goals.{else-text-gt1-via-then-text-gt1+else-text-eq48, else-text-gt1-via-else-text-gt1}

pub returns-then-text-eq48 : goal.returns-then-text-eq48
returns-then-text-eq48 c = λ n within same.
    no_zero n (omega (arith, c.ranges.greatest.fits, within)) (ap (λ text. get_or text 0 0) (sym same) ∙ c.if-text-eq48.true)
    (let long = ap length same in omega (arith, long, c.if-text-gt1.true))

pub returns-in_default : goal.returns-in_default
returns-in_default c = λ n within same. no-text c.args.greatest n c.args.text.now (omega arith) c.in_default.ensures.cases.0 within same

pub returns : goal.returns
returns c = read-number c.args.greatest c.args.text.now c.parse_decimal.result (omega arith)
    (λ zero_first. elim c.else-text-gt1.branch [
      | else-text-gt1-via-then-text-gt1+else-text-eq48 w ↦
          absurd (w.if-text-eq48.false zero_first)
      | else-text-gt1-via-else-text-gt1 w ↦ omega arith
    ])
    (c.parse_decimal.ensures ∙ ap (decimal_value 20 c.args.greatest) c.in-Ok.ensures.cases.0)
