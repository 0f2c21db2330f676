-- A stage took the first item of its queue.
use Rattle.std.proofs.Common.{◌≡◌, ◌<◌, [], Some, refl, length, ap, arith, rules}
use Rattle.std.specs.Prelude.{slice_set}
use Rattle.std.specs.List.{slice_get}
use Rattle.std.proofs.lemmas.Grind.{common_steps}
use Rattle.std.proofs.lemmas.Option.{slice_get_read}
use Rattle.tox_network.specs.NetworkInside.{network_view}
use Rattle.tox_network.proofs.Sound.{may_take}
use Rattle.tox_network.proofs.Made.{take_made, step_from}
use Rattle.tox_network.proofs.network.Network.take.Goals as goal

pub take-requires-clause-fits : goal.take-requires-clause-fits
take-requires-clause-fits c =
    let small : c.args.place < length c.self.inside.stages.items = search rules in
    let at : slice_get c.self.inside.stages.items c.args.place ≡ Some c.index_mut-stage.result.now =
    slice_get_read _ _ _ _ refl small c.index_mut-stage.ensures.value in
    may_take (network_view c.self.inside) c.args.place c.index_mut-stage.result.now c.pop-item.result _ c.self.invariant at c.pop-item.ensures.first

pub invariant_of-self : goal.invariant_of-self
invariant_of-self c =
    let small : c.args.place < length c.self.inside.stages.items = search rules in
    let at : slice_get c.self.inside.stages.items c.args.place ≡ Some c.index_mut-stage.result.now =
    slice_get_read _ _ _ _ refl small c.index_mut-stage.ensures.value in
    let idle : c.index_mut-stage.result.now.pending ≡ [] = grind (arith, common_steps) in
    (take_made (network_view c.self.inside) _ c.args.place c.index_mut-stage.result.now c.pop-item.result c.self.invariant at idle c.pop-item.ensures.first
    c.pop-item.ensures.popped (ap (slice_set c.self.inside.stages.items c.args.place) c.take.ensures) refl refl c.pop-item.ensures.room refl refl).0

pub returns-clause-moved : goal.returns-clause-moved
returns-clause-moved c = λ _.
    let small : c.args.place < length c.self.inside.stages.items = search rules in
    let at : slice_get c.self.inside.stages.items c.args.place ≡ Some c.index_mut-stage.result.now =
    slice_get_read _ _ _ _ refl small c.index_mut-stage.ensures.value in
    let idle : c.index_mut-stage.result.now.pending ≡ [] = grind (arith, common_steps) in
    step_from c.self.view_is
    (take_made (network_view c.self.inside) _ c.args.place c.index_mut-stage.result.now c.pop-item.result c.self.invariant at idle c.pop-item.ensures.first
    c.pop-item.ensures.popped (ap (slice_set c.self.inside.stages.items c.args.place) c.take.ensures) refl refl c.pop-item.ensures.room refl refl)
