-- The type, the pairs of the attributes, and that of the toxicity.
use Rattle.std.proofs.Common.{refl, ◌∙◌}
use Rattle.tox_text.proofs.ShortParts.{printed_short-parts}
use Rattle.tox_text.proofs.Printings.{Prints-as, Prints-failed, Prints-then}
use Rattle.tox_text.proofs.short_form.print_short.Goals as goal

pub returns-in_err-print : goal.returns-in_err-print
returns-in_err-print g c =
    let entry = c.args.entry.now in
    Prints-as (printed_short-parts _ _ _ _ entry.toxic entry.toxicity c.name.ensures refl refl refl)
    (Prints-failed _ c.from_residual.ensures.1 c.in_err-print.ensures)

pub returns-in_err-print_attributes : goal.returns-in_err-print_attributes
returns-in_err-print_attributes g c =
    let entry = c.args.entry.now in
    Prints-as (printed_short-parts _ _ _ _ entry.toxic entry.toxicity c.name.ensures c.attributes.ensures.names (c.deref.ensures.0 ∙ c.values.ensures.values)
    refl)
    (Prints-then c.in_ok-print.ensures
    (Prints-failed _ c.from_residual-in_err-print_attributes.ensures.1 c.in_err-print_attributes.ensures))

pub returns : goal.returns
returns g c =
    let entry = c.args.entry.now in
    Prints-as (printed_short-parts _ _ _ _ entry.toxic entry.toxicity c.name.ensures c.attributes.ensures.names (c.deref.ensures.0 ∙ c.values.ensures.values)
    c.from-toxicity.ensures)
    (Prints-then c.in_ok-print.ensures
    (Prints-then c.in_ok-print_attributes.ensures c.print-2.ensures))
