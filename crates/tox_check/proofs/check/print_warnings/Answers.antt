-- One warning behind the other.
use Rattle.std.proofs.Common.{◌+◌}
use Rattle.tox_text.proofs.Listed.{IsAt}
use Rattle.tox_check.specs.Sentences.{sentence}
use Rattle.tox_text.proofs.Printings.{Prints-more, Prints-stopped}
use Rattle.tox_check.proofs.check.print_warnings.Goals as goal

pub loop-warning-preserved : goal.loop-warning-preserved
loop-warning-preserved g c =
    let here : IsAt c.args.warnings.now c.loop-warning.warning-index c.warning-item.result =
    record { below = c.loop-warning-test.true; default = c.warning-item.result; is = c.warning-item.is } in
    Prints-more (sentence (c.args.rule + 1)) here c.loop-warning.invariant c.in_ok-print_warning.ensures

pub returns-in_err-print_warning : goal.returns-in_err-print_warning
returns-in_err-print_warning g c =
    let here : IsAt c.args.warnings.now c.loop-warning.warning-index c.warning-item.result =
    record { below = c.loop-warning-test.true; default = c.warning-item.result; is = c.warning-item.is } in
    Prints-stopped (sentence (c.args.rule + 1)) here c.from_residual.ensures.1 c.loop-warning.invariant c.in_err-print_warning.ensures
