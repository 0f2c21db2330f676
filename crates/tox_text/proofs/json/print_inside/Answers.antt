-- One byte behind the other.
use Rattle.tox_text.specs.Json.{json_byte}
use Rattle.tox_text.proofs.Listed.{IsAt-read}
use Rattle.tox_text.proofs.Printings.{Prints-all, Prints-more, Prints-none, Prints-stopped}
use Rattle.tox_text.proofs.json.print_inside.Goals as goal

pub loop-byte-init : goal.loop-byte-init
loop-byte-init g c = Prints-none c.requires

pub loop-byte-preserved : goal.loop-byte-preserved
loop-byte-preserved g c =
    let here = IsAt-read c.args.text.now c.loop-byte.byte-index 0 c.loop-byte-test.true in
    Prints-more json_byte here c.loop-byte.invariant c.in_ok-print_json_byte.ensures

pub returns-in_err-print_json_byte : goal.returns-in_err-print_json_byte
returns-in_err-print_json_byte g c =
    let here = IsAt-read c.args.text.now c.loop-byte.byte-index 0 c.loop-byte-test.true in
    Prints-stopped json_byte here c.from_residual.ensures.1 c.loop-byte.invariant c.in_err-print_json_byte.ensures

pub returns : goal.returns
returns g c =
    Prints-all json_byte _ _ c.loop-byte-test.false c.loop-byte.invariant
