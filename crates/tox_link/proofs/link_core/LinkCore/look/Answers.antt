-- One more piece was looked at.
use Rattle.std.proofs.Common.{arith}
use Rattle.tox_link.proofs.Looks.{looked-both}
use Rattle.tox_link.proofs.ActLemmas.{waits-unknown}
use Rattle.tox_link.proofs.link_core.LinkCore.look.Goals as goal

pub loop-self-preserved : goal.loop-self-preserved
loop-self-preserved c = record {
  looked = looked-both c.args.self.now c.loop-self.self c.look_at_next.new.self c.loop-self.invariant.looked c.look_at_next.ensures.looked;
  drained = c.look_at_next.ensures.drained;
  known = λ last is. absurd (waits-unknown c.loop-self.self last (omega (arith, c.look_at_next.ensures.more c.if-not-look_at_next.false))
      (c.loop-self.invariant.known last is));
}
