-- The first run, and then the others.
use Rattle.std.proofs.Common.{◌≢◌, ◌-◌, ◌≤◌, ◌∙◌, ap, arith, drop, length, sym, take}
use Rattle.std.proofs.lemmas.Bool.{eqb-false}
use Rattle.std.proofs.lemmas.List.{take_rest}
use Rattle.tox_check.specs.Sentences.{ranges_text}
use Rattle.tox_check.specs.declared.run.Run.{Run}
use Rattle.tox_check.proofs.RangeParts.{ranges_text-first, ranges_text-more}
use Rattle.tox_text.proofs.Printings.{Prints-as, Prints-failed, Prints-then}
use Rattle.tox_check.proofs.warning.ranges.+print_ranges.Goals as goal

pub returns-in_err-print_range : goal.returns-in_err-print_range
returns-in_err-print_range g t c =
    let none : Run = record { first = 0; last = 0; rule = 0 } in
    Prints-as (ranges_text-first c.args.runs.now none c.in-len1-up.len_at_least)
    (Prints-failed _ c.from_residual.ensures.1 c.in_err-print_range.ensures)

pub returns-in_err-print : goal.returns-in_err-print
returns-in_err-print g t c =
    let runs = c.args.runs.now in
    let none : Run = record { first = 0; last = 0; rule = 0 } in
    let rest = take_rest runs 1 in
    let some : length (take (length runs - 1) (drop 1 runs)) ≢ 0 = eqb-false _ _ (sym c.is_empty.ensures ∙ c.if-is_empty.false) in
    let more : 1 ≤ length (drop 1 runs) = let l = ap length rest in omega arith in
    Prints-as (ranges_text-more runs none c.in-len1-up.len_at_least more)
    (Prints-then c.in_ok-print_range.ensures
    (Prints-failed _ c.from_residual-in_err-print.ensures.1 c.in_err-print.ensures))

pub returns : goal.returns
returns g t c =
    let runs = c.args.runs.now in
    let none : Run = record { first = 0; last = 0; rule = 0 } in
    let rest = take_rest runs 1 in
    let some : length (take (length runs - 1) (drop 1 runs)) ≢ 0 = eqb-false _ _ (sym c.is_empty.ensures ∙ c.if-is_empty.false) in
    let more : 1 ≤ length (drop 1 runs) = let l = ap length rest in omega arith in
    Prints-as (ranges_text-more runs none c.in-len1-up.len_at_least more)
    (Prints-then c.in_ok-print_range.ensures
    (Prints-then c.in_ok-print.ensures
    (Prints-as (ap ranges_text rest) c.print_ranges.ensures)))
