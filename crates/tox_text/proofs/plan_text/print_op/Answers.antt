-- What the operation does, until when and from when on, and the end of its line.
use Rattle.std.proofs.Common.{◌≡◌, ℕ, ◌++◌, codes, append_assoc, refl, sym, ◌∙◌}
use Rattle.tox_defs.specs.operations.Op.{op_from, op_until}
use Rattle.tox_defs.specs.declared.operations.op.Op.{Op}
use Rattle.tox_text.specs.PlanText.{nonzero_words, op_line, work_words}
use Rattle.tox_text.proofs.Printings.{Prints-as, Prints-failed, Prints-then}
use Rattle.tox_text.proofs.plan_text.print_op.Goals as goal

op_line-parts : (op : Op) (until from : ℕ) → until ≡ op_until op → from ≡ op_from op
    → work_words op ++ (nonzero_words (codes " until ") until ++ (nonzero_words (codes " from ") from ++ codes "\n")) ≡ op_line op
op_line-parts op until from is_until is_from =
    rw (is_until, is_from)
    (sym (append_assoc (work_words op) (nonzero_words (codes " until ") (op_until op)) (nonzero_words (codes " from ") (op_from op) ++ codes "\n"))
    ∙ sym (append_assoc (work_words op ++ nonzero_words (codes " until ") (op_until op)) (nonzero_words (codes " from ") (op_from op)) (codes "\n")))

pub returns-in_err-print_work : goal.returns-in_err-print_work
returns-in_err-print_work g c =
    Prints-as (op_line-parts c.args.op.now _ _ refl refl)
    (Prints-failed _ c.from_residual.ensures.1 c.in_err-print_work.ensures)

pub returns-in_err-print_nonzero : goal.returns-in_err-print_nonzero
returns-in_err-print_nonzero g c =
    Prints-as (op_line-parts c.args.op.now _ _ (c.from.ensures ∙ c.until_of.ensures) refl)
    (Prints-then c.in_ok-print_work.ensures
    (Prints-failed _ c.from_residual-in_err-print_nonzero.ensures.1 c.in_err-print_nonzero.ensures))

pub returns-in_err-print_nonzero-2 : goal.returns-in_err-print_nonzero-2
returns-in_err-print_nonzero-2 g c =
    Prints-as (op_line-parts c.args.op.now _ _ (c.from.ensures ∙ c.until_of.ensures) (c.from-2.ensures ∙ c.from_of.ensures))
    (Prints-then c.in_ok-print_work.ensures
    (Prints-then c.in_ok-print_nonzero.ensures
    (Prints-failed _ c.from_residual-in_err-print_nonzero-2.ensures.1 c.in_err-print_nonzero-2.ensures)))

pub returns : goal.returns
returns g c =
    Prints-as (op_line-parts c.args.op.now _ _ (c.from.ensures ∙ c.until_of.ensures) (c.from-2.ensures ∙ c.from_of.ensures))
    (Prints-then c.in_ok-print_work.ensures
    (Prints-then c.in_ok-print_nonzero.ensures
    (Prints-then c.in_ok-print_nonzero-2.ensures c.print.ensures)))
