-- The warnings of the rule, as lines.
use Rattle.std.proofs.Common.{◌+◌, ◌++◌, ap, arith, codes, decimal, flat_map, length, map, refl, rules, sym, ◌∙◌}
use Rattle.tox_check.specs.Printing.{joined_lines}
use Rattle.tox_check.specs.Sentences.{sentence}
use Rattle.tox_check.proofs.RuleLines.{joined_lines-lines_of, length-lines_of}
use Rattle.tox_text.proofs.Printings.{Prints-as, Prints-passed, Prints-fault}
use Rattle.tox_check.proofs.check.print_rule.Goals as goal

pub returns-in-Ok-print_warnings : goal.returns-in-Ok-print_warnings
returns-in-Ok-print_warnings g c = λ found is.
    let number = c.args.rule + 1 in
    let warnings = c.in-Ok.warnings.items in
    let lines = ap (map (λ text. (codes "rule " ++ decimal number) ++ text)) (c.in-Ok.ensures found is) in
    let printed = ap (flat_map (sentence number)) c.deref.ensures.value ∙ joined_lines-lines_of number warnings ∙ ap joined_lines lines in
    let counted = ap length (sym lines) ∙ length-lines_of number warnings in
    (Prints-as printed (Prints-passed c.in-Ok-print_warnings.ensures), omega (arith, counted, c.len.ensures))

pub returns : goal.returns
returns g c = λ found is.
    let number = c.args.rule + 1 in
    let warnings = c.in-Ok.warnings.items in
    let lines = ap (map (λ text. (codes "rule " ++ decimal number) ++ text)) (c.in-Ok.ensures found is) in
    let printed = ap (flat_map (sentence number)) c.deref.ensures.value ∙ joined_lines-lines_of number warnings ∙ ap joined_lines lines in
    (Prints-as printed (Prints-fault refl refl c.in-Err.ensures), search rules)
