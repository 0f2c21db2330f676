-- The parts of the line.
use Rattle.std.proofs.Common.{ap, ◌∙◌}
use Rattle.tox_config.specs.Remarks.{Repeated}
use Rattle.tox_check.proofs.file_lines.print_times.Goals as goal

pub returns : goal.returns
returns g c =
    let name = c.deref.ensures ∙ ap (λ (r : Repeated). r.name) c.repeated.view_is in
    let count = ap (λ (r : Repeated). r.count) c.repeated.view_is in
    rw (name, count) at c.print_line.ensures
