-- One element behind the other.
use Rattle.std.proofs.Common.{◌+◌, ◌-◌, ◌^◌, ◌≤◌, arith, ap, flat_map, length, min, refl, take, take_all, ◌∙◌}
use Rattle.tox_check.specs.Checking.{held}
use Rattle.tox_check.specs.FileLines.{repeated_lines}
use Rattle.tox_check.specs.Printing.{joined_lines}
use Rattle.tox_check.proofs.LinesThen.{IfOk-failed}
use Rattle.tox_check.proofs.RuleLines.{held-more, joined_lines-flat_map}
use Rattle.tox_text.proofs.Listed.{IsAt}
use Rattle.tox_text.proofs.Printings.{Prints-all, Prints-as, Prints-more, Prints-none, Prints-passed, Prints-stopped}
use Rattle.tox_check.proofs.file_lines.print_repeated.Goals as goal

pub loop-name-init : goal.loop-name-init
loop-name-init g c = record { passed = Prints-none c.requires; counted = refl }

pub loop-name-preserved : goal.loop-name-preserved
loop-name-preserved g c =
    let xs = c.args.repeated.now in
    let k = c.loop-name.name-index in
    let here : IsAt xs k c.name-item.result = record { below = c.loop-name-test.true; default = c.name-item.result; is = c.name-item.is } in
    let printed = c.in_ok-count.ensures in
    record {
      passed = Prints-more (λ each. joined_lines (repeated_lines each)) here c.loop-name.invariant.passed (Prints-passed printed.0);
      counted = c.saturating_add-warned.ensures
          ∙ ap (λ n. min (n + c.in_ok-count.count) (2 ^ 64 - 1)) c.loop-name.invariant.counted
          ∙ ap (λ n. min (held (length (flat_map repeated_lines (take k xs))) + n) (2 ^ 64 - 1)) printed.1
          ∙ held-more repeated_lines xs k _ here;
    }

pub returns-in_err-count : goal.returns-in_err-count
returns-in_err-count g c =
    let xs = c.args.repeated.now in
    let here : IsAt xs c.loop-name.name-index c.name-item.result = record { below = c.loop-name-test.true; default = c.name-item.result; is = c.name-item.is } in (
      Prints-as (joined_lines-flat_map repeated_lines xs) (Prints-stopped (λ each. joined_lines (repeated_lines each)) here c.from_residual.ensures.1 c.loop-name.invariant.passed
          c.in_err-count.ensures.0),
      IfOk-failed _ _ c.from_residual.result c.from_residual.ensures.1,
    )

pub returns : goal.returns
returns g c =
    let xs = c.args.repeated.now in
    let past : length xs ≤ c.loop-name.name-index = omega arith in (
      Prints-as (joined_lines-flat_map repeated_lines xs) (Prints-all (λ each. joined_lines (repeated_lines each)) _ _ past (Prints-passed c.loop-name.invariant.passed)),
      c.loop-name.invariant.counted ∙ ap (λ some. held (length (flat_map repeated_lines some))) (take_all c.loop-name.name-index xs past),
    )
