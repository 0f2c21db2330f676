-- The text of a picture is one.
use Rattle.std.proofs.Common.{◌≡◌, Result, Ok, Err, IfOk, string_bytes}
use Rattle.std.specs.declared.string.String.{String}
use Rattle.std.specs.declared.alloc.Global.{Global}
use Rattle.std.specs.declared.alloc.AllocError.{AllocError}
use Rattle.tox_draw.specs.declared.picture.Picture.{Picture}
use Rattle.tox_draw.specs.declared.setting.Setting.{Setting}
use Rattle.tox_draw.specs.Drawn.{IsPictureIn}
use Rattle.tox_draw.specs.Frames.{IsFrame}
use Rattle.tox_draw.specs.Pictures.{picture_text}

pub text_drawn : (result : Result (String Global) AllocError) (setting : Setting) (picture : Picture) → picture.setting ≡ setting → IsFrame picture.frame
    → IfOk result (λ text. string_bytes text ≡ picture_text picture)
    → IfOk result (λ text. IsPictureIn setting (string_bytes text))
text_drawn (Ok text) setting picture stands frame is = record { picture = picture; stands = stands; frame = frame; is = is }
text_drawn (Err error) setting picture stands frame is = is
