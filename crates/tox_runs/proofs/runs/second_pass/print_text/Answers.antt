-- Behind the last piece the ending's line alone is left.
use Rattle.std.proofs.Common.{◌≡◌, ◌∷◌, ◌++◌, [], sym, ◌∙◌, ap}
use Rattle.tox_time.specs.declared.streams.item.Item.TheVariants.{Quiet}
use Rattle.tox_text.specs.ResultText.{ending_line}
use Rattle.tox_text.proofs.Printings.{Prints-as, Prints-then}
use Rattle.tox_runs.proofs.runs.second_pass.print_text.Goals as goal

pub returns : goal.returns
returns g c =
    λ arrived spelled.
    let done = c.in_ok-print_lines.ensures.prints arrived spelled in
    let behind = c.in_ok-print_lines.ensures.behind arrived spelled in
    let last : g.S.SliceSource.text_left c.print_lines.new.source arrived (Quiet ∷ []) ≡ ending_line c.last-ending.result
    = c.last-ending.ensures (record { arrived = arrived; position = behind.0; behind = behind.1 }) in
    Prints-as (ap (λ line. done.printed ++ line) (sym last) ∙ done.whole)
    (Prints-then done.prints c.print_ending.ensures)
