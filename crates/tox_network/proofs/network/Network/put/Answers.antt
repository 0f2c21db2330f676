-- A stage put its next item.
use Rattle.std.proofs.Common.{◌≡◌, ◌<◌, Some, refl, length, rules}
use Rattle.std.specs.List.{slice_get}
use Rattle.std.proofs.lemmas.Option.{slice_get_read}
use Rattle.tox_network.specs.NetworkInside.{network_view}
use Rattle.tox_network.proofs.Made.{put_made, step_from}
use Rattle.tox_network.proofs.network.Network.put.Goals as goal

pub invariant_of-self : goal.invariant_of-self
invariant_of-self c =
    let small : c.args.place < length c.self.inside.stages.items = search rules in
    let at : slice_get c.self.inside.stages.items c.args.place ≡ Some c.index_mut-stage.result.now =
    slice_get_read _ _ _ _ refl small c.index_mut-stage.ensures.value in
    (put_made (network_view c.self.inside) _ c.args.place c.index_mut-stage.result.now c.emit.new.self c.in-Some.item c.self.invariant at c.in-Some.ensures.0
    c.in-Some.ensures.1 (search rules) c.push.ensures.pushed refl refl refl c.push.ensures.room refl refl).0

pub returns-clause-moved : goal.returns-clause-moved
returns-clause-moved c = λ _.
    let small : c.args.place < length c.self.inside.stages.items = search rules in
    let at : slice_get c.self.inside.stages.items c.args.place ≡ Some c.index_mut-stage.result.now =
    slice_get_read _ _ _ _ refl small c.index_mut-stage.ensures.value in
    step_from c.self.view_is
    (put_made (network_view c.self.inside) _ c.args.place c.index_mut-stage.result.now c.emit.new.self c.in-Some.item c.self.invariant at c.in-Some.ensures.0
    c.in-Some.ensures.1 (search rules) c.push.ensures.pushed refl refl refl c.push.ensures.room refl refl)
