-- The words of the ending.
use Rattle.std.proofs.Common.{ℕ, codes, ap, sym, ◌∙◌}
use Rattle.tox_log.specs.JudgedObject.{ended_fields, ending_fields}
use Rattle.tox_text.proofs.Printings.{Prints-as}
use Rattle.tox_log.proofs.judged_json.print_ending.Goals as goal

pub returns-in-Closed : goal.returns-in-Closed
returns-in-Closed g c =
    Prints-as (ap (λ (instant : ℕ). ended_fields (codes "closed") instant) c.get.ensures.value ∙ ap ending_fields (sym c.in-Closed.is)) c.print_ended.ensures

pub returns-in-Reset : goal.returns-in-Reset
returns-in-Reset g c =
    Prints-as (ap (λ (instant : ℕ). ended_fields (codes "reset") instant) c.get-in-Reset.ensures.value ∙ ap ending_fields (sym c.in-Reset.is))
    c.print_ended-in-Reset.ensures
