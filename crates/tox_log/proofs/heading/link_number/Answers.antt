-- No text of 0 is another number.
use Rattle.std.proofs.Common.{sym, ◌∙◌, arith}
use Rattle.std.proofs.lemmas.Fmt.{decimal_injective}
use Rattle.tox_log.proofs.heading.link_number.Goals as goal

pub returns-then-number-eq0 : goal.returns-then-number-eq0
returns-then-number-eq0 c = λ number some few is.
    let same = decimal_injective c.in_ok-number.number number (omega (arith, c.in_ok-number.ensures.0)) (omega (arith, few)) (sym c.in_ok-number.ensures.1 ∙ is)
    in
    omega (arith, same, c.if-number-eq0.true, some)
