-- A level by its worker, its ring and the level below.
use Rattle.std.proofs.Common.{◌≡◌, ◌∷◌, ◌++◌, Some, map, ap, sym, ◌∙◌, subst, rules}
use Rattle.std.specs.Prelude.{All}
use Rattle.std.proofs.lemmas.List.Elements.{All-head, All-tail}
use Rattle.rtrb.specs.Ring.{sent, received, known_items}
use Rattle.tox_time.specs.streams.Stream.{has_final}
use Rattle.tox_time.proofs.StreamLemmas.{final_of_stream}
use Rattle.tox_words.specs.Draw.{draw_in}
use Rattle.tox_defs.specs.Flow.{IsPlaced, placed_reaction}
use Rattle.tox_defs.proofs.ChainStreams.{toxic_keeps}
use Rattle.tox_network.specs.Shown.{shown}
use Rattle.tox_stages.specs.Passing.{Delivers, SendsFlow}
use Rattle.tox_stages.proofs.Joined.{level_up}
use Rattle.tox_stages.proofs.levels.+level.Goals as goal

pub level-below-requires-clause-toxics : goal.level-below-requires-clause-toxics
level-below-requires-clause-toxics g t c =
    let lanes = c.args.pipeline.now.lanes in
    let toxic = c.in-Some.toxic.now in
    let later = c.in-Some.later.now in
    let split : c.args.toxics.now ≡ toxic ∷ later = search rules in
    λ _ _. All-tail (IsPlaced lanes) toxic later (subst (All (IsPlaced lanes)) split c.requires.toxics)

pub start-started-requires-clause-placed : goal.start-started-requires-clause-placed
start-started-requires-clause-placed g t c =
    let lanes = c.args.pipeline.now.lanes in
    let toxic = c.in-Some.toxic.now in
    let later = c.in-Some.later.now in
    let split : c.args.toxics.now ≡ toxic ∷ later = search rules in
    λ _ _. All-head (IsPlaced lanes) toxic later (subst (All (IsPlaced lanes)) split c.requires.toxics)

pub returns-in_default-clause-ended : goal.returns-in_default-clause-ended
returns-in_default-clause-ended g t c = let sends = c.feed_and_drain.ensures.sent in ap has_final sends.whole ∙ final_of_stream 0 0 _ sends.stream.stream

pub returns-clause-delivered : goal.returns-clause-delivered
returns-clause-delivered g t c =
    let lanes = c.args.pipeline.now.lanes in
    let draws = draw_in lanes c.args.pipeline.now.words.now in
    let toxic = c.in-Some.toxic.now in
    let later = c.in-Some.later.now in
    let reaction = placed_reaction draws toxic in
    let above = received c.join-consumer.result.consumer in
    let out = sent c.join-consumer.result.producer in
    let below = received c.in_ok-next.next in
    let known = known_items c.slots_beside.new.self in
    let delivered = shown c.in_ok-next.outcome.slices (Some c.in_ok-next.outcome.ending) in
    let split : c.args.toxics.now ≡ toxic ∷ later = search rules in
    let fits : All (IsPlaced lanes) (toxic ∷ later) = subst (All (IsPlaced lanes)) split c.requires.toxics in
    let ring : below ++ known ≡ out = cc (c.slots_beside.ensures.fifo, c.slots_beside.ensures.looked.1, c.slots_beside.ensures.producer.1) in
    let promised = c.in-Ok.ensures in
    let sends : SendsFlow reaction above out = rw (← promised.same_toxic, ← promised.same_lanes, ← promised.same_words) c.join-consumer.ensures.2 in
    let up : Delivers (reaction ∷ map (placed_reaction draws) later) above delivered =
    level_up reaction (map (placed_reaction draws) later) above out below known delivered
    (toxic_keeps toxic.toxic (All-head (IsPlaced lanes) toxic later fits).0 (draws toxic.place)) sends ring c.in_ok-next.ensures.delivered in
    subst (λ toxics. Delivers (map (placed_reaction draws) toxics) above delivered) (sym split) up
