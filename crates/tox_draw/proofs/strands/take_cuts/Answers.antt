-- A cut more is drawn.
use Rattle.std.proofs.Common.{◌∙◌}
use Rattle.tox_draw.proofs.Planned.{plan-cut}
use Rattle.tox_draw.proofs.strands.take_cuts.Goals as goal

pub loop-slice-preserved : goal.loop-slice-preserved
loop-slice-preserved c =
    let kept = c.next_cut.ensures.kept in
    let gives = c.in-Some.ensures.some in record {
      piece = kept.piece ∙ c.loop-slice.invariant.piece;
      latest = kept.latest ∙ c.loop-slice.invariant.latest;
      due = λ means behind few plan. plan-cut c.args.frame.now means behind c.loop-slice.planned c.add.new.self c.loop-slice.runner c.next_cut.new.self
          c.in-Some.slice c.saturating_sub.result
          (rw c.loop-slice.invariant.piece few) gives.cut gives.begins gives.stands c.saturating_sub.ensures c.add.ensures
          (c.loop-slice.invariant.due means behind few plan);
    }
