-- The document of version 2 can be printed, and its text gives the same.
use Rattle.std.proofs.Common.{Some, string_bytes, sym, ap, ◌∙◌}
use Rattle.std.proofs.lemmas.Result.{IfOk-weaker}
use Rattle.std.proofs.lemmas.Str.{IsUtf8-string_bytes}
use Rattle.toml.specs.View.{view}
use Rattle.tox_script.specs.Migrated.{version_2}
use Rattle.tox_script.proofs.Migrated.{IsMigrated-read, IsVersion1-read, version_2-shallow}
use Rattle.tox_script.proofs.migration.migrate.Goals as goal

pub print-requires-clause-deep : goal.print-requires-clause-deep
print-requires-clause-deep c =
    let d = view c.in_ok-document.document in
    let old = IsVersion1-read d c.in_ok-script.script c.in_ok-script.ensures.ok (sym c.in-One.ensures) in
    let shallow = version_2-shallow d c.in_ok-script.script old (rw c.in_ok-rules-in-One.ensures at c.ascends.ensures) in
    rw (c.in_ok-migrated-in-One.ensures.ok, c.in_ok-rules-in-One.ensures) shallow.0

pub print-requires-clause-dates : goal.print-requires-clause-dates
print-requires-clause-dates c =
    let d = view c.in_ok-document.document in
    let old = IsVersion1-read d c.in_ok-script.script c.in_ok-script.ensures.ok (sym c.in-One.ensures) in
    let shallow = version_2-shallow d c.in_ok-script.script old (rw c.in_ok-rules-in-One.ensures at c.ascends.ensures) in
    rw (c.in_ok-migrated-in-One.ensures.ok, c.in_ok-rules-in-One.ensures) shallow.1

pub returns-in-One-clause-ok : goal.returns-in-One-clause-ok
returns-in-One-clause-ok c =
    let d = view c.in_ok-document.document in
    let made = c.in_ok-migrated-in-One.ensures.ok ∙ ap version_2 c.in_ok-rules-in-One.ensures in
    IfOk-weaker c.print.result _ _
    (λ text printed.
    IsMigrated-read c.args.bytes.now (string_bytes text) d c.in_ok-script.script c.in_ok-document.ensures.ok c.in_ok-script.ensures.ok (sym c.in-One.ensures)
    (IsUtf8-string_bytes text)
    (printed ∙ ap Some made))
    c.print.ensures.ok
