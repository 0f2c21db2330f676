-- One pair more.
use Rattle.std.proofs.Common.{◌+◌, ◌*◌, ◌∙◌, arith, slice_index}
use Rattle.hex.proofs.HexLemmas.{decode_of-even}
use Rattle.hex.proofs.Pairs.{decode_done, decode_start, decode_step}
use Rattle.tox_text.proofs.HexPairs.{digit_there, pair_read}
use Rattle.tox_text.proofs.arrivals.hex_pairs.decode_pairs.Goals as goal

pub loop-i-init : goal.loop-i-init
loop-i-init c = record { decoded = decode_start c.args.digits.now c.args.bytes.now }

pub digit_value-requires : goal.digit_value-requires
digit_value-requires c = digit_there c.args.digits.now _ c.requires.pairs (omega arith)

pub digit_value-requires-in-loop-i : goal.digit_value-requires-in-loop-i
digit_value-requires-in-loop-i c = digit_there c.args.digits.now _ c.requires.pairs (omega arith)

pub loop-i-preserved : goal.loop-i-preserved
loop-i-preserved c =
    let digits = c.args.digits.now in
    let i = c.loop-i.i in
    let read = pair_read (slice_index digits (2 * i)) (slice_index digits (2 * i + 1)) (2 * i) _ _ c.digit_value.ensures c.digit_value-in-loop-i.ensures in
    record { decoded = decode_step digits c.loop-i.bytes i _ (omega arith) (omega arith) read c.loop-i.invariant.decoded }

pub returns : goal.returns
returns c = decode_of-even c.args.digits.now (omega arith) ∙ decode_done _ c.loop-i.bytes c.loop-i.i (omega arith) (omega arith) c.loop-i.invariant.decoded
