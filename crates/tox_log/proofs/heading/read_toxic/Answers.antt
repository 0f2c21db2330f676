-- The short form is as it is printed.
use Rattle.std.proofs.Common.{◌≡◌, true, false, ap, sym, subst, ◌∙◌, rules}
use Rattle.tox_defs.specs.short.Printed.{printed_short}
use Rattle.tox_log.specs.HeaderLines.{IsWritableName}
use Rattle.tox_log.proofs.HeaderParts.{toxic-read}
use Rattle.tox_log.proofs.HeadingLines.{no-name, read-name, toxic-cut, toxic-spaced, value-of}
use Rattle.tox_log.proofs.heading.read_toxic.Goals as goal

pub returns-then-branch-clause-line : goal.returns-then-branch-clause-line
returns-then-branch-clause-line c = (
  c.in-Some.name.now,
  read-name c.name_of.result c.in-Some.name.now (λ name. name.now ≡ c.in-Some.name.now) c.if-is_none.ensures c.name_of.ensures,
  toxic-read c.args.line.now c.in-Some.short.now c.in-Some.name.now c.in-Some-entry_of.entry
      (search rules) (search rules),
)

pub returns-in_default-clause-back : goal.returns-in_default-clause-back
returns-in_default-clause-back c = λ named prints. absurd (c.in_default.ensures (printed_short named.0.toxic named.0.toxicity) named.1
    (toxic-spaced c.args.line.now named prints))

pub returns-then-is_none-clause-back : goal.returns-then-is_none-clause-back
returns-then-is_none-clause-back c = λ named prints.
    let name = (toxic-cut c.args.line.now c.in-Some.short.now c.in-Some.name.now named prints c.in-Some.ensures.0 c.in-Some.ensures.1).1 in
    absurd (no-name c.name_of.result c.in-Some.name.now _ c.if-is_none.ensures c.name_of.ensures (subst IsWritableName (sym name) prints.toxic.name))

pub returns-in_default-entry_of-clause-back : goal.returns-in_default-entry_of-clause-back
returns-in_default-entry_of-clause-back c = λ named prints. c.in_default-entry_of.ensures.back named.0 prints.toxic.entry
    (toxic-cut c.args.line.now c.in-Some.short.now c.in-Some.name.now named prints c.in-Some.ensures.0 c.in-Some.ensures.1).0

pub returns-then-branch-clause-back : goal.returns-then-branch-clause-back
returns-then-branch-clause-back c = λ named prints. c.in-Some-entry_of.ensures.back named.0 prints.toxic.entry
    (toxic-cut c.args.line.now c.in-Some.short.now c.in-Some.name.now named prints c.in-Some.ensures.0 c.in-Some.ensures.1).0

pub returns-else-branch-clause-back : goal.returns-else-branch-clause-back
returns-else-branch-clause-back c = λ named prints.
    let short = (toxic-cut c.args.line.now c.in-Some.short.now c.in-Some.name.now named prints c.in-Some.ensures.0 c.in-Some.ensures.1).0 in
    let same = value-of c.in-Some-entry_of.entry named.0 (c.in-Some-entry_of.ensures.back named.0 prints.toxic.entry short) in
    let printed : true ≡ false = sym (c.in_ok-is_printed.ensures.1 (short ∙ ap (λ entry. printed_short entry.toxic entry.toxicity) (sym same)))
    ∙ c.if-branch.false in
    absurd (cc)
