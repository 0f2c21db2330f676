-- Both ends are done.
use Rattle.std.proofs.Common.{◌≡◌, true, sym, ◌∙◌}
use Rattle.rtrb.specs.Ring.{received}
use Rattle.tox_time.specs.streams.Stream.{has_final}
use Rattle.tox_stages.proofs.Joined.{last_ring}
use Rattle.tox_stages.proofs.source_and_sink.feed_and_drain.Goals as goal

pub returns-then-has_ended-clause-delivered : goal.returns-then-has_ended-clause-delivered
returns-then-has_ended-clause-delivered g c =
    let ended : has_final (received c.drain-has_come.new.consumer) ≡ true = sym c.drain-has_come.ensures.kept.ended
    ∙ (sym c.has_ended.ensures ∙ c.if-has_ended.true) in
    last_ring _ _ ended (c.in-Ok.ensures _ c.drain-has_come.ensures.kept)
