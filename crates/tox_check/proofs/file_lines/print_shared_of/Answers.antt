-- The parts of the line.
use Rattle.std.proofs.Common.{ap, ◌∙◌}
use Rattle.tox_config.specs.Proxy.{Proxy}
use Rattle.tox_check.proofs.file_lines.print_shared_of.Goals as goal

pub returns : goal.returns
returns g c =
    let other = c.deref.ensures ∙ ap (λ (p : Proxy). p.name) c.other.view_is in
    let name = c.deref-2.ensures ∙ ap (λ (p : Proxy). p.name) c.proxy.view_is in
    let listen = c.deref-3.ensures ∙ ap (λ (p : Proxy). p.listen) c.proxy.view_is in
    let printed = rw (other, name, listen) at c.print_line.ensures in
    rw c.in-Some.is printed
