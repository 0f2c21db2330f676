-- Where memory is refused nothing is printed.
use Rattle.std.proofs.Common.{◌∙◌}
use Rattle.tox_draw.proofs.pages.Shown.{Shows-none}
use Rattle.tox_text.proofs.Printings.{Prints-exited}
use Rattle.tox_draw.proofs.pages.page.print_front.Goals as goal

pub returns-in_err-text : goal.returns-in_err-text
returns-in_err-text g c =
    Prints-exited c.from_residual.ensures.1 (Shows-none c.requires)

pub returns : goal.returns
returns g c = rw (c.as_str.ensures.value ∙ c.in_ok-text.ensures) at c.print_text.ensures
