-- The digits of an escape are UTF-8.
use Rattle.std.proofs.Common.{rules, ◌≡◌, ◌∷◌, []}
use Rattle.std.proofs.lemmas.Str.{IsUtf8-from_ascii}
use Rattle.hex.specs.Hex.{encode_lower}
use Rattle.tox_text.proofs.VisibleLetters.{IsAscii-encode_lower}
use Rattle.tox_text.proofs.names.display_escape.Goals as goal

pub unreachable-requires : goal.unreachable-requires
unreachable-requires g c =
    let written : c.encode_to_slice.new.output ≡ encode_lower (c.args.escape.byte ∷ []) = search rules in
    c.in_default.ensures.cases.0 (rw written (IsUtf8-from_ascii _ (IsAscii-encode_lower (c.args.escape.byte ∷ []))))
