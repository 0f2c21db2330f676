-- The front of the first slice, and the pieces behind it.
use Rattle.std.proofs.Common.{append-nil, subst, sym, ◌∙◌, arith}
use Rattle.tox_link.specs.steps.Held.{AreFrom}
use Rattle.tox_link.proofs.HeldLemmas.{from-append}
use Rattle.tox_link.proofs.UnwrittenLemmas.{begins}
use Rattle.tox_link.proofs.direction.parts.parts_of.Goals as goal

pub returns-then-not-is_joined-clause-bytes : goal.returns-then-not-is_joined-clause-bytes
returns-then-not-is_joined-clause-bytes c =
    let front = c.front_of-front.result.now in
    let window = c.args.window.now in
    λ position joined.
    let first = begins position c.args.unwritten.now c.args.first.now joined c.requires.first in
    subst (AreFrom window.held c.args.written position) (sym (c.parts.ensures ∙ append-nil front))
    (record { few = omega (arith, c.front_of-front.ensures.few, c.min.ensures, first.within); part = c.front_of-front.ensures.bytes })

pub returns-clause-bytes : goal.returns-clause-bytes
returns-clause-bytes c =
    let window = c.args.window.now in
    let front = c.front_of-front.result.now in
    let second = c.whole_at-second.result.now in
    let third = c.whole_at-third.result.now in
    λ position joined.
    let first = begins position c.args.unwritten.now c.args.first.now joined c.requires.first in
    let one : AreFrom window.held c.args.written position front = record {
      few = omega (arith, c.front_of-front.ensures.few, c.min.ensures, first.within);
      part = c.front_of-front.ensures.bytes;
    } in
    let two = c.whole_at-second.ensures.bytes position joined one.few in
    let three = c.whole_at-third.ensures.bytes position joined two.few in
    let four = c.whole_at-2.ensures.bytes position joined three.few in
    subst (AreFrom window.held c.args.written position) (sym c.parts-2.ensures)
    (from-append window.held c.args.written position front _ one
    (from-append window.held _ position second _ two (from-append window.held _ position third _ three four)))
