-- A stage with nothing to put, and then its queue.
use Rattle.std.proofs.Common.{◌≡◌, ◌<◌, ◌-◌, Some, length, refl, sym, ◌∙◌, ap, arith}
use Rattle.std.specs.List.{slice_get}
use Rattle.std.proofs.lemmas.Grind.{common_steps}
use Rattle.std.proofs.lemmas.Option.{slice_get_read}
use Rattle.tox_network.specs.declared.moves.Move.TheVariants.{Take}
use Rattle.tox_network.specs.NetworkState.{queue}
use Rattle.tox_network.specs.NetworkInside.{network_view}
use Rattle.tox_network.specs.NetworkView.{state_of}
use Rattle.tox_network.specs.Possible.{possible_before}
use Rattle.tox_network.proofs.Telling.{before_idle, before_busy, any_some, any_none}
use Rattle.tox_network.proofs.network.Network.possible_before.Goals as goal

pub returns-then-not-is_idle : goal.returns-then-not-is_idle
returns-then-not-is_idle c =
    let now = network_view c.self.inside in
    let k = c.loop-place.place - 1 in
    let small : k < length c.self.inside.stages.items = omega (arith, ap (λ network. length network.stages) c.self.view_is) in
    let at : slice_get c.self.inside.stages.items k ≡ Some c.index.result.now = slice_get_read _ _ _ _ refl small c.index.ensures in
    sym (before_busy now c.loop-place.place k c.index.result.now (omega arith) at (grind (arith, common_steps)))
    ∙ c.loop-place.invariant
    ∙ ap (λ network. possible_before (state_of network) c.args.count) c.self.view_is

pub returns-then-not-is_empty : goal.returns-then-not-is_empty
returns-then-not-is_empty c =
    let now = network_view c.self.inside in
    let k = c.loop-place.place - 1 in
    let small : k < length c.self.inside.stages.items = omega (arith, ap (λ network. length network.stages) c.self.view_is) in
    let at : slice_get c.self.inside.stages.items k ≡ Some c.index.result.now = slice_get_read _ _ _ _ refl small c.index.ensures in
    sym (any_some (queue (state_of now) k) (Take k) (possible_before (state_of now) k) (grind (arith, common_steps)))
    ∙ sym (before_idle now c.loop-place.place k c.index.result.now (omega arith) at (grind (arith, common_steps)))
    ∙ c.loop-place.invariant
    ∙ ap (λ network. possible_before (state_of network) c.args.count) c.self.view_is

pub loop-place-preserved : goal.loop-place-preserved
loop-place-preserved c =
    let now = network_view c.self.inside in
    let k = c.loop-place.place - 1 in
    let small : k < length c.self.inside.stages.items = omega (arith, ap (λ network. length network.stages) c.self.view_is) in
    let at : slice_get c.self.inside.stages.items k ≡ Some c.index.result.now = slice_get_read _ _ _ _ refl small c.index.ensures in
    sym (any_none (queue (state_of now) k) (Take k) (possible_before (state_of now) k) (grind (arith, common_steps)))
    ∙ sym (before_idle now c.loop-place.place k c.index.result.now (omega arith) at (grind (arith, common_steps)))
    ∙ c.loop-place.invariant
