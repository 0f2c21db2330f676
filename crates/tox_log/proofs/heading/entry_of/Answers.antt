-- A printed short form is text.
use Rattle.std.proofs.Common.{IsUtf8, sym, subst}
use Rattle.tox_defs.specs.short.Printed.{printed_short}
use Rattle.tox_log.proofs.ShortForms.{short-signs, signs-utf8}
use Rattle.tox_log.proofs.heading.entry_of.Goals as goal

pub returns-in_default-clause-back : goal.returns-in_default-clause-back
returns-in_default-clause-back c = λ entry inside is. absurd (c.in_default.ensures.cases.0
    (subst IsUtf8 (sym is) (signs-utf8 (printed_short entry.toxic entry.toxicity) (short-signs entry.toxic entry.toxicity inside.0 inside.1))))
