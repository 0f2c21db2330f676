-- One element behind the other.
use Rattle.std.proofs.Common.{◌+◌, ◌-◌, ◌^◌, ◌≤◌, arith, ap, flat_map, length, min, refl, take, take_all, ◌∙◌}
use Rattle.tox_check.specs.Checking.{held}
use Rattle.tox_check.specs.FileLines.{unread_lines}
use Rattle.tox_check.specs.Printing.{joined_lines}
use Rattle.tox_check.proofs.LinesThen.{IfOk-failed}
use Rattle.tox_check.proofs.RuleLines.{held-more, joined_lines-flat_map}
use Rattle.tox_text.proofs.Listed.{IsAt}
use Rattle.tox_text.proofs.Printings.{Prints-all, Prints-as, Prints-more, Prints-none, Prints-passed, Prints-stopped}
use Rattle.tox_check.proofs.file_lines.print_unread.Goals as goal

pub loop-member-init : goal.loop-member-init
loop-member-init g c = record { passed = Prints-none c.requires; counted = refl }

pub loop-member-preserved : goal.loop-member-preserved
loop-member-preserved g c =
    let xs = c.args.unread.now in
    let k = c.loop-member.member-index in
    let here : IsAt xs k c.member-item.result = record { below = c.loop-member-test.true; default = c.member-item.result; is = c.member-item.is } in
    let printed = c.in_ok-count.ensures in
    record {
      passed = Prints-more (λ each. joined_lines (unread_lines each)) here c.loop-member.invariant.passed (Prints-passed printed.0);
      counted = c.saturating_add-warned.ensures
          ∙ ap (λ n. min (n + c.in_ok-count.count) (2 ^ 64 - 1)) c.loop-member.invariant.counted
          ∙ ap (λ n. min (held (length (flat_map unread_lines (take k xs))) + n) (2 ^ 64 - 1)) printed.1
          ∙ held-more unread_lines xs k _ here;
    }

pub returns-in_err-count : goal.returns-in_err-count
returns-in_err-count g c =
    let xs = c.args.unread.now in
    let here : IsAt xs c.loop-member.member-index c.member-item.result = record { below = c.loop-member-test.true; default = c.member-item.result; is = c.member-item.is } in (
      Prints-as (joined_lines-flat_map unread_lines xs) (Prints-stopped (λ each. joined_lines (unread_lines each)) here c.from_residual.ensures.1 c.loop-member.invariant.passed
          c.in_err-count.ensures.0),
      IfOk-failed _ _ c.from_residual.result c.from_residual.ensures.1,
    )

pub returns : goal.returns
returns g c =
    let xs = c.args.unread.now in
    let past : length xs ≤ c.loop-member.member-index = omega arith in (
      Prints-as (joined_lines-flat_map unread_lines xs) (Prints-all (λ each. joined_lines (unread_lines each)) _ _ past (Prints-passed c.loop-member.invariant.passed)),
      c.loop-member.invariant.counted ∙ ap (λ some. held (length (flat_map unread_lines some))) (take_all c.loop-member.member-index xs past),
    )
