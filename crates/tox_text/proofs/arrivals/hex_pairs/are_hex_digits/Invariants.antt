-- All digits so far are hexadecimal.
use Rattle.std.proofs.Common.{◌≡◌, take}
use Rattle.std.specs.List.{list_all}
use Rattle.hex.specs.Hex.{is_hex_digit}
use Rattle.tox_text.proofs.arrivals.hex_pairs.are_hex_digits.Given as goal

abbrev pub invariant-loop-digit : goal.invariant-loop-digit
invariant-loop-digit l = record { so_far : l.all ≡ list_all is_hex_digit (take l.digit-index l.digits) }
