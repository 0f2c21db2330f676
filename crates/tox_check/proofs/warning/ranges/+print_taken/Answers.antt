-- The first run and its rule, and then the others.
use Rattle.std.proofs.Common.{◌≡◌, ◌≤◌, List, ap, arith, drop, get_or, length}
use Rattle.std.proofs.lemmas.List.{take_rest}
use Rattle.tox_check.specs.Sentences.{meet_unless, taken_text}
use Rattle.tox_check.specs.declared.run.Run.{Run}
use Rattle.tox_check.proofs.RangeParts.{taken_text-first, taken_text-last, taken_text-more}
use Rattle.tox_text.proofs.Printings.{Prints-as, Prints-failed, Prints-then}
use Rattle.tox_check.proofs.warning.ranges.+print_taken.Goals as goal

pub returns-in_err-print_range : goal.returns-in_err-print_range
returns-in_err-print_range g t c =
    let none : Run = record { first = 0; last = 0; rule = 0 } in
    Prints-as (taken_text-first c.args.runs.now none c.in-len1-up.len_at_least)
    (Prints-failed _ c.from_residual.ensures.1 c.in_err-print_range.ensures)

pub returns-in_default-rest : goal.returns-in_default-rest
returns-in_default-rest g t c =
    let runs = c.args.runs.now in
    let none : Run = record { first = 0; last = 0; rule = 0 } in
    let last : length (drop 1 runs) ≡ 0 = let l = ap length (take_rest runs 1) in omega arith in
    Prints-as (taken_text-last runs none c.in-len1-up.len_at_least last)
    (Prints-then c.in_ok-print_range.ensures c.print_meet.ensures)

pub returns-in_err-print_meet_unless : goal.returns-in_err-print_meet_unless
returns-in_err-print_meet_unless g t c =
    let runs = c.args.runs.now in
    let none : Run = record { first = 0; last = 0; rule = 0 } in
    let rest = take_rest runs 1 in
    let more : 1 ≤ length (drop 1 runs) = let l = ap length rest in omega arith in
    let next = ap (λ (others : List Run). meet_unless (get_or runs 0 none).rule (get_or others 0 none).rule) rest in
    Prints-as (taken_text-more runs none none c.in-len1-up.len_at_least more)
    (Prints-then c.in_ok-print_range.ensures
    (Prints-failed _ c.from_residual-in_err-print_meet_unless.ensures.1 (rw next at c.in_err-print_meet_unless.ensures)))

pub returns-in_err-print : goal.returns-in_err-print
returns-in_err-print g t c =
    let runs = c.args.runs.now in
    let none : Run = record { first = 0; last = 0; rule = 0 } in
    let rest = take_rest runs 1 in
    let more : 1 ≤ length (drop 1 runs) = let l = ap length rest in omega arith in
    let next = ap (λ (others : List Run). meet_unless (get_or runs 0 none).rule (get_or others 0 none).rule) rest in
    Prints-as (taken_text-more runs none none c.in-len1-up.len_at_least more)
    (Prints-then c.in_ok-print_range.ensures
    (Prints-then (rw next at c.in_ok-print_meet_unless.ensures)
    (Prints-failed _ c.from_residual-in_err-print.ensures.1 c.in_err-print.ensures)))

pub returns : goal.returns
returns g t c =
    let runs = c.args.runs.now in
    let none : Run = record { first = 0; last = 0; rule = 0 } in
    let rest = take_rest runs 1 in
    let more : 1 ≤ length (drop 1 runs) = let l = ap length rest in omega arith in
    let next = ap (λ (others : List Run). meet_unless (get_or runs 0 none).rule (get_or others 0 none).rule) rest in
    Prints-as (taken_text-more runs none none c.in-len1-up.len_at_least more)
    (Prints-then c.in_ok-print_range.ensures
    (Prints-then (rw next at c.in_ok-print_meet_unless.ensures)
    (Prints-then c.in_ok-print.ensures
    (Prints-as (ap taken_text rest) c.print_taken.ensures))))
