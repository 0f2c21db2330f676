-- The word, when it begins, and the ending.
use Rattle.std.proofs.Common.{◌≡◌, ℕ, ◌++◌, Option, append_assoc, codes, ap, sym, ◌∙◌}
use Rattle.tox_time.specs.declared.streams.ending.Ending.{Ending}
use Rattle.tox_defs.specs.declared.operations.op.Op.TheVariants.{Halt}
use Rattle.tox_text.specs.PlanText.{at_words, nonzero_words, work_words}
use Rattle.tox_text.specs.ResultText.{ending_words}
use Rattle.tox_text.proofs.Printings.{Prints-as, Prints-failed, Prints-then}
use Rattle.tox_text.proofs.plan_text.print_halt.Goals as goal

halt-parts : (at : Option ℕ) (after : ℕ) (ending : Ending)
    → codes "halt" ++ (at_words at ++ (nonzero_words (codes " after ") after ++ (codes " " ++ ending_words ending))) ≡ work_words (Halt at after ending)
halt-parts at after ending =
    let bytes = nonzero_words (codes " after ") after in
    ap (λ text. codes "halt" ++ text)
    (sym (append_assoc (at_words at) bytes (codes " " ++ ending_words ending))
    ∙ sym (append_assoc (at_words at ++ bytes) (codes " ") (ending_words ending)))

pub returns-in_err-print : goal.returns-in_err-print
returns-in_err-print g c =
    Prints-as (halt-parts c.args.at.now c.args.after c.args.ending.now)
    (Prints-failed _ c.from_residual.ensures.1 c.in_err-print.ensures)

pub returns-in_err-print_at : goal.returns-in_err-print_at
returns-in_err-print_at g c =
    Prints-as (halt-parts c.args.at.now c.args.after c.args.ending.now)
    (Prints-then c.in_ok-print.ensures
    (Prints-failed _ c.from_residual-in_err-print_at.ensures.1 c.in_err-print_at.ensures))

pub returns-in_err-print_nonzero : goal.returns-in_err-print_nonzero
returns-in_err-print_nonzero g c =
    Prints-as (halt-parts c.args.at.now c.args.after c.args.ending.now)
    (Prints-then c.in_ok-print.ensures
    (Prints-then c.in_ok-print_at.ensures
    (Prints-failed _ c.from_residual-in_err-print_nonzero.ensures.1 c.in_err-print_nonzero.ensures)))

pub returns-in_err-print-2 : goal.returns-in_err-print-2
returns-in_err-print-2 g c =
    Prints-as (halt-parts c.args.at.now c.args.after c.args.ending.now)
    (Prints-then c.in_ok-print.ensures
    (Prints-then c.in_ok-print_at.ensures
    (Prints-then c.in_ok-print_nonzero.ensures
    (Prints-failed _ c.from_residual-in_err-print-2.ensures.1 c.in_err-print-2.ensures))))

pub returns : goal.returns
returns g c =
    Prints-as (halt-parts c.args.at.now c.args.after c.args.ending.now)
    (Prints-then c.in_ok-print.ensures
    (Prints-then c.in_ok-print_at.ensures
    (Prints-then c.in_ok-print_nonzero.ensures
    (Prints-then c.in_ok-print-2.ensures c.print_ending_words.ensures))))
