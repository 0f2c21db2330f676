-- The picture is on some axis of time.
use Rattle.std.proofs.lemmas.Result.{IfOk-weaker}
use Rattle.tox_draw.proofs.recorded.drawn.Goals as goal

pub returns : goal.returns
returns g c = IfOk-weaker c.drawn_to.result _ _ (λ text on. on.shown) c.drawn_to.ensures
