-- One more cut.
use Rattle.std.proofs.Common.{◌≡◌, ◌∷◌, ◌++◌, [], sym, subst, ◌∙◌}
use Rattle.std.specs.Prelude.{Any}
use Rattle.tox_time.specs.streams.Neighbours.{LiesInChunk}
use Rattle.tox_plan.specs.Cuts.{IsCut}
use Rattle.tox_plan.proofs.Deliveries.{goes-on, goes-cut, stop_from-append, neighbours-append, any-within}
use Rattle.tox_plan.proofs.delivery.take_cuts.Goals as goal

pub loop-slice-preserved : goal.loop-slice-preserved
loop-slice-preserved c =
    let cut : IsCut c.loop-slice.runner c.next_cut.new.self c.in-Some.slice = c.in-Some.ensures.some.cut in
    let is : c.push.new.self ≡ c.loop-slice.slices ++ c.in-Some.slice ∷ [] = c.in_ok-push.ensures.ok in
    record {
      goes = λ items. rw is
          (goes-on c.args.runner.now c.loop-slice.runner c.next_cut.new.self c.args.slices.now c.loop-slice.slices (c.loop-slice.slices ++ c.in-Some.slice ∷ [])
          items items items
          (c.loop-slice.invariant.goes items) (goes-cut c.loop-slice.runner c.next_cut.new.self c.in-Some.slice c.loop-slice.slices items cut));
      piece = (c.in-Some.ensures.kept.piece ∙ c.loop-slice.invariant.piece.0, c.in-Some.ensures.kept.latest ∙ c.loop-slice.invariant.piece.1);
      neighbours = λ items lies first.
          let before = c.loop-slice.invariant.neighbours items lies first in
          let here : Any (LiesInChunk c.loop-slice.runner.piece.span) items =
          subst (λ piece. Any (LiesInChunk piece.span) items) (sym c.loop-slice.invariant.piece.0) lies in
          rw is
          (record {
            neighbours = neighbours-append items 0 c.loop-slice.slices c.in-Some.slice before.neighbours (c.in-Some.ensures.some.begins ∙ sym before.stop)
                cut.within.some
                (any-within items c.loop-slice.runner.piece c.in-Some.slice cut.within here);
            stop = stop_from-append 0 c.loop-slice.slices c.in-Some.slice ∙ sym c.in-Some.ensures.some.stands;
          });
    }

pub returns-clause-neighbours : goal.returns-clause-neighbours
returns-clause-neighbours c =
    λ items lies first.
    let before = c.loop-slice.invariant.neighbours items lies first in
    record { neighbours = before.neighbours; stop = before.stop ∙ sym c.in_default.ensures.idle.position }
