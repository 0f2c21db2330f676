-- More of the slices is written.
use Rattle.std.proofs.Common.{rules, ◌≤◌, length, refl, subst, sym, arith}
use Rattle.std.specs.Io.Slices.{io_slices_bytes}
use Rattle.tox_link.specs.direction.Follows.{AreJoined}
use Rattle.tox_link.specs.link_core.Core.{core_position}
use Rattle.tox_link.proofs.CarryLemmas.{append-nothing}
use Rattle.tox_link.proofs.FollowLemmas.{held-on, writes-none, writes-part}
use Rattle.tox_link.proofs.direction.writing_on.write_parts.Goals as goal
use Rattle.tox_link.proofs.direction.writing_on.write_parts.Goals.{in-Ok+in-Some+in-0-1, in-Err-1}

pub returns-in-Ok-Some-clause-held : goal.returns-in-Ok-Some-clause-held
returns-in-Ok-Some-clause-held g c =
    let link = c.args.link.now in
    let few : c.in-Ok-Some.count ≤ length (io_slices_bytes c.parts_of-parts.result) = rw c.in-Ok-Some.field-0-is at c.in-Ok-Some.ensures.count in
    let next = c.parts_of-parts.ensures.bytes (core_position link.core)
    (subst (AreJoined (core_position link.core)) (sym c.deref.ensures.0) c.requires.held.up_to.joined) in
    (refl, held-on link c.in-Ok-Some.count c.requires.held (omega (arith, few, next.few)))

pub returns-in-Ok-Some-clause-wrote : goal.returns-in-Ok-Some-clause-wrote
returns-in-Ok-Some-clause-wrote g c =
    let link = c.args.link.now in
    let next = c.parts_of-parts.ensures.bytes (core_position link.core)
    (subst (AreJoined (core_position link.core)) (sym c.deref.ensures.0) c.requires.held.up_to.joined) in
    writes-part link (g.W.PollSink.written c.args.sink.now) (g.W.PollSink.written c.poll_write.new.self) (io_slices_bytes c.parts_of-parts.result)
    c.in-Ok-Some.count (rw c.in-Ok-Some.field-0-is at c.in-Ok-Some.ensures.count) next.part (rw c.in-Ok-Some.field-0-is at c.in-Ok-Some.ensures.bytes)

pub returns-in-Ok-Some-eq0-clause-wrote : goal.returns-in-Ok-Some-eq0-clause-wrote
returns-in-Ok-Some-eq0-clause-wrote g c =
    writes-none c.args.link.now (g.W.PollSink.written c.args.sink.now) (g.W.PollSink.written c.poll_write.new.self)
    (elim c.in-Ok-Some-eq0-1.branch [
      | in-Ok+in-Some+in-0-1 w ↦ let none = append-nothing (g.W.PollSink.written c.args.sink.now) in search rules
      | in-Err-1 w ↦ search rules
    ])
