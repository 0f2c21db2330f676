-- One item behind the other.
use Rattle.std.proofs.Common.{[]}
use Rattle.tox_text.specs.Json.{after_comma}
use Rattle.tox_text.specs.declared.json.JsonItem.TheVariants.{Text}
use Rattle.tox_text.proofs.Listed.{IsAt-read}
use Rattle.tox_text.proofs.Printings.{Prints-more, Prints-stopped}
use Rattle.tox_text.proofs.json.print_others.Goals as goal

pub loop-item-preserved : goal.loop-item-preserved
loop-item-preserved g c =
    let here = IsAt-read c.args.items.now c.loop-item.item-index (Text (record { ref_ptr = (0, 0); now = [] })) c.loop-item-test.true in
    Prints-more after_comma here c.loop-item.invariant c.in_ok-print_after_comma.ensures

pub returns-in_err-print_after_comma : goal.returns-in_err-print_after_comma
returns-in_err-print_after_comma g c =
    let here = IsAt-read c.args.items.now c.loop-item.item-index (Text (record { ref_ptr = (0, 0); now = [] })) c.loop-item-test.true in
    Prints-stopped after_comma here c.from_residual.ensures.1 c.loop-item.invariant c.in_err-print_after_comma.ensures
