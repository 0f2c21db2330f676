-- The parts of three lines.
use Rattle.tox_text.specs.Names.{visible_name}
use Rattle.tox_log.proofs.HeaderParts.{heading-parts}
use Rattle.tox_text.proofs.Printings.{Prints-as}
use Rattle.tox_log.proofs.header_text.print_heading.Goals as goal

pub returns : goal.returns
returns g c =
    let link = c.args.link.now in
    Prints-as (heading-parts (visible_name link.proxy.now) link.number link.stream c.args.lanes link.seed _ _ c.name.ensures c.count.ensures) c.print.ensures
