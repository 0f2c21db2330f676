-- Turn by turn, to the rest or to a chunk whose memory is refused.
use Rattle.std.proofs.Common.{◌≡◌, [], Some, arith, refl, sym, ◌∙◌, ap}
use Rattle.std.specs.List.{slice_get}
use Rattle.std.specs.Slice.Iter.{iter_rest}
use Rattle.std.proofs.lemmas.Result.{err_from_is_err_and}
use Rattle.tox_network.specs.declared.moves.Move.TheVariants.{Deliver}
use Rattle.tox_network.specs.NetworkView.{state_of, IsStep}
use Rattle.tox_network.specs.runs.Settling.{turn}
use Rattle.tox_network.proofs.TurnByTurn.{settles_more, refused_at, next_listed, some_and}
use Rattle.tox_network.proofs.network.Network.settle.Goals as goal

pub loop-other-init : goal.loop-other-init
loop-other-init c = (record { made = []; run = refl; rule = tt; counted = omega arith; cap = refl; arrived = refl }, c.iter-listed.ensures.rest)

pub loop-other-preserved : goal.loop-other-preserved
loop-other-preserved c =
    let mid = c.loop-other.self in
    let rest = iter_rest c.loop-other.listed in
    let next = next_listed c.loop-other.listed c.next.new.self c.next.result c.next.ensures.steps in
    let made = some_and (turn mid.cap c.copied.result (state_of mid)) (λ move. IsStep move mid c.turn.new.self) c.in_ok-turn.ensures.made in
    let here : turn mid.cap (slice_get rest 0) (state_of mid) ≡ Some made.0 = ap (λ one. turn mid.cap one (state_of mid)) (sym (c.copied.ensures ∙ next.0))
    ∙ made.1 in
    let more = settles_more c.args.moves.now c.args.self.now mid c.turn.new.self rest c.loop-other.invariant.0 c.loop-other.invariant.1 made.0 here made.2 in
    (more.0, next.1 ∙ more.1)

pub returns-in_err-turn-clause-memory : goal.returns-in_err-turn-clause-memory
returns-in_err-turn-clause-memory c =
    let mid = c.loop-other.self in
    let rest = iter_rest c.loop-other.listed in
    let next = next_listed c.loop-other.listed c.next.new.self c.next.result c.next.ensures.steps in
    let refused = c.in_err-turn.ensures.memory in
    let here : turn mid.cap (slice_get rest 0) (state_of mid) ≡ Some Deliver = ap (λ one. turn mid.cap one (state_of mid)) (sym (c.copied.ensures ∙ next.0))
    ∙ refused.1 in
    let at = refused_at c.args.moves.now c.args.self.now mid c.turn.new.self rest c.loop-other.invariant.0 c.loop-other.invariant.1
    c.in_err-turn.ensures.unchanged here refused.2 in
    let p = err_from_is_err_and c.from_residual.result c.from_residual.ensures.1 in
    rw (p.1, p.2) (refused.0, at)
