-- Some bytes at a time.
use Rattle.std.proofs.Common.{drop, arith}
use Rattle.hex.specs.Hex.{encode_lower}
use Rattle.tox_text.proofs.HexParts.{encode_lower-nil, encode_lower_more, encode_lower_parts, within_some}
use Rattle.tox_text.proofs.Printings.{Prints-as, Prints-failed, Prints-none, Prints-then}
use Rattle.tox_text.proofs.printer.SizedPrinter.put_hex.Goals as goal

pub loop-done-init : goal.loop-done-init
loop-done-init g c = record { within = omega arith; passed = rw encode_lower-nil (Prints-none c.requires) }

pub returns-in_err-put_some_hex : goal.returns-in_err-put_some_hex
returns-in_err-put_some_hex g c =
    let rest = drop (c.min.result) (drop c.loop-done.done c.args.bytes.now) in
    Prints-as (encode_lower_parts c.args.bytes.now c.loop-done.done c.min.result)
    (Prints-then c.loop-done.invariant.passed (Prints-failed (encode_lower rest) c.from_residual.ensures.1 c.in_err-put_some_hex.ensures))

pub loop-done-preserved : goal.loop-done-preserved
loop-done-preserved g c = record {
  within = within_some c.args.bytes.now c.loop-done.done c.min.result c.loop-done.invariant.within;
  passed = Prints-as (encode_lower_more c.args.bytes.now c.loop-done.done c.min.result) (Prints-then c.loop-done.invariant.passed c.in_ok-put_some_hex.ensures);
}
