-- Digits are 48 to 57, letters 65 to 70 and 97 to 102.
use Rattle.std.proofs.Common.{arith}
use Rattle.tox_text.proofs.arrivals.hex_pairs.digit_value.Goals as goal

pub returns : goal.returns
returns c = grind (arith)
