-- The axis of time is that of the frame.
use Rattle.std.proofs.Common.{ap, string_bytes, subst}
use Rattle.tox_draw.specs.declared.axis.Axis.{Axis}
use Rattle.tox_draw.specs.declared.frame.Frame.{Frame}
use Rattle.tox_draw.specs.Drawn.{IsPictureOn}
use Rattle.tox_draw.proofs.recorded.drawn_to.Goals as goal

pub returns : goal.returns
returns g c =
    subst (λ (time : Axis). IsPictureOn time (g.R.Source.remaining c.args.second.now) c.args.setting (string_bytes c.in_ok-picture_of.field-0))
    (ap (λ (frame : Frame). frame.time) c.new-frame.ensures.value) (c.in_ok-picture_of.ensures _ c.in_ok-record.ensures)
