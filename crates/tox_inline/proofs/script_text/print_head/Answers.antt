-- The parts of the head.
use Rattle.std.proofs.Common.{refl}
use Rattle.tox_inline.proofs.HeadParts.{toxic_head-parts}
use Rattle.tox_text.proofs.Printings.{Prints-as}
use Rattle.tox_inline.proofs.script_text.print_head.Goals as goal

pub returns : goal.returns
returns g c =
    Prints-as (toxic_head-parts c.args.toxic.now _ _ _ _ _ c.short_name.ensures refl c.name.ensures c.name-2.ensures c.from.ensures) c.print.ensures
