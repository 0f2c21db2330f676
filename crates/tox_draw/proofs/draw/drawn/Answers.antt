-- The picture is the one that was put together.
use Rattle.std.proofs.Common.{refl}
use Rattle.tox_draw.specs.declared.setting.Setting.TheVariants.{Alone}
use Rattle.tox_draw.proofs.DrawnTexts.{text_drawn}
use Rattle.tox_draw.proofs.draw.drawn.Goals as goal

pub returns : goal.returns
returns c = text_drawn c.picture_text.result Alone _ refl c.new-frame.ensures.frame c.picture_text.ensures
