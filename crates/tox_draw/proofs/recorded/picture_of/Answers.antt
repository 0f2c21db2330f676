-- The picture is that of what was kept.
use Rattle.std.proofs.Common.{refl}
use Rattle.tox_draw.proofs.HeardLines.{picture-shown}
use Rattle.tox_draw.proofs.recorded.picture_of.Goals as goal

pub returns : goal.returns
returns c = picture-shown c.picture_text.result c.args.setting c.args.frame c.args.kept _ c.in_ok-written.written refl refl c.requires c.in_ok-arrived.ensures
    c.in_ok-planned.ensures c.in_ok-written.ensures refl refl refl c.of.ensures refl c.picture_text.ensures
