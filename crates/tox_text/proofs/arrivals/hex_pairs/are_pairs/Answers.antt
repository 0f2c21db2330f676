use Rattle.std.proofs.Common.{◌∙◌, arith}
use Rattle.tox_text.proofs.HexPairs.{pairs-even}
use Rattle.tox_text.proofs.arrivals.hex_pairs.are_pairs.Goals as goal

pub returns-then-digits-eq0 : goal.returns-then-digits-eq0
returns-then-digits-eq0 c = c.are_hex_digits.ensures ∙ pairs-even c.args.digits.now (omega arith)
