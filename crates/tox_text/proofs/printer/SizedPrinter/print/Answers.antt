-- One part behind the other.
use Rattle.std.proofs.Common.{[]}
use Rattle.tox_text.specs.declared.parts.Part.TheVariants.{Word}
use Rattle.tox_text.specs.Parts.{printed}
use Rattle.tox_text.proofs.Listed.{IsAt-read}
use Rattle.tox_text.proofs.Printings.{Prints-all, Prints-more, Prints-none, Prints-stopped}
use Rattle.tox_text.proofs.printer.SizedPrinter.print.Goals as goal

pub loop-part-init : goal.loop-part-init
loop-part-init g c = Prints-none c.requires

pub loop-part-preserved : goal.loop-part-preserved
loop-part-preserved g c =
    let here = IsAt-read c.args.parts.now c.loop-part.part-index (Word (record { ref_ptr = (0, 0); now = [] })) c.loop-part-test.true in
    Prints-more printed here c.loop-part.invariant c.in_ok-print_part.ensures

pub returns-in_err-print_part : goal.returns-in_err-print_part
returns-in_err-print_part g c =
    let here = IsAt-read c.args.parts.now c.loop-part.part-index (Word (record { ref_ptr = (0, 0); now = [] })) c.loop-part-test.true in
    Prints-stopped printed here c.from_residual.ensures.1 c.loop-part.invariant c.in_err-print_part.ensures

pub returns : goal.returns
returns g c =
    Prints-all printed _ _ c.loop-part-test.false c.loop-part.invariant
