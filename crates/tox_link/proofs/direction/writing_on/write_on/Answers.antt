-- What is written to its end is noted.
use Rattle.std.proofs.Common.{◌∷◌, [], ap, subst, sym, ◌∙◌, arith}
use Rattle.tox_link.specs.declared.notes.LinkEvent.TheVariants.{Wrote}
use Rattle.arrayvec.specs.ArrayVec.{ArrayVec}
use Rattle.tox_link.specs.declared.direction.polled_link.PolledLink.{PolledLink}
use Rattle.tox_link.specs.declared.direction.unwritten.Unwritten.{Unwritten}
use Rattle.tox_link.specs.direction.Follows.{AreBegun, IsHeld, WritesOn}
use Rattle.tox_link.proofs.FollowLemmas.{held-noted, writes-noted, writes-same}
use Rattle.tox_link.proofs.Logs.{events-none}
use Rattle.tox_link.proofs.UnwrittenLemmas.{begun-behind}
use Rattle.tox_link.proofs.direction.writing_on.write_on.Goals as goal

pub returns-then-link-first-clause-wrote : goal.returns-then-link-first-clause-wrote
returns-then-link-first-clause-wrote g c = (
  [],
  events-none (g.N.Notes.events c.args.notes.now),
  c.write_parts.ensures.wrote,
  omega (arith, c.write_parts.ensures.on),
)

pub returns-then-link-first-clause-begun : goal.returns-then-link-first-clause-begun
returns-then-link-first-clause-begun g c =
    subst (λ (slices : ArrayVec Unwritten). AreBegun (g.C.Clock.reported c.args._clock.now) slices.items) (sym c.write_parts.ensures.same) c.requires.begun

pub returns-in-Ok-clause-begun : goal.returns-in-Ok-clause-begun
returns-in-Ok-clause-begun g c =
    let reported = g.C.Clock.reported c.args._clock.now in
    subst (λ (link : PolledLink). AreBegun reported link.unwritten.items) (sym c.in-Ok.ensures.done)
    (begun-behind reported c.args.link.now.unwritten.items c.requires.begun)

pub returns-in-Err-clause-begun : goal.returns-in-Err-clause-begun
returns-in-Err-clause-begun g c =
    subst (λ (link : PolledLink). AreBegun (g.C.Clock.reported c.args._clock.now) link.unwritten.items) (sym c.in-Err.ensures.refused.1) c.requires.begun

pub returns-in-Ok-clause-held : goal.returns-in-Ok-clause-held
returns-in-Ok-clause-held g c =
    subst IsHeld (sym c.in-Ok.ensures.done) (held-noted c.args.link.now c.args.first.now c.requires.held c.requires.writing c.if-link-first.false)

pub returns-in-Ok-clause-wrote : goal.returns-in-Ok-clause-wrote
returns-in-Ok-clause-wrote g c =
    let first = c.args.first.now in
    let known = g.W.PollSink.written c.args.sink.now in
    let more = Wrote first.slice first.reading ∷ [] in
    let same = ap (λ (link : PolledLink). link.written) c.in-Ok.ensures.done in (
      more,
      c.in-Ok.ensures.noted,
      subst (λ (link : PolledLink). WritesOn c.args.link.now known more link known) (sym c.in-Ok.ensures.done)
          (writes-noted c.args.link.now first known c.requires.held c.requires.writing),
      omega (arith, same),
    )

pub returns-in-Err-clause-wrote : goal.returns-in-Err-clause-wrote
returns-in-Err-clause-wrote g c =
    let refused = c.in-Err.ensures.refused in
    let same = ap (λ (link : PolledLink). link.written) refused.1 in (
      [],
      refused.0 ∙ events-none (g.N.Notes.events c.args.notes.now),
      writes-same c.args.link.now c.note_written.new.link (g.W.PollSink.written c.args.sink.now) refused.1,
      omega (arith, same),
    )
