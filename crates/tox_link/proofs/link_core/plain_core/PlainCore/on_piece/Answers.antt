-- One more piece waits.
use Rattle.std.proofs.Common.{Ok, ap, subst, sym, ◌∙◌, arith}
use Rattle.tox_time.specs.declared.streams.position.StreamPosition.{StreamPosition}
use Rattle.tox_link.specs.declared.link_core.waiting.WaitingPiece.{WaitingPiece}
use Rattle.tox_link.specs.link_core.Acts.{HearsPiece}
use Rattle.tox_link.specs.link_core.CoreKept.{total_len}
use Rattle.tox_link.specs.link_core.Plain.{plain_core}
use Rattle.tox_link.specs.link_core.PlainInside.{CameBy}
use Rattle.tox_link.proofs.PlainLemmas.{came-append, came-later, plain-hears}
use Rattle.tox_link.proofs.WaitingLemmas.{total_len-append}
use Rattle.tox_link.proofs.link_core.plain_core.PlainCore.on_piece.Goals as goal

pub invariant_of-self : goal.invariant_of-self
invariant_of-self c =
    let inside = c.self.inside in
    let kept = c.self.invariant in
    let next = c.in_ok-self-inside in
    let position = ap (λ (place : StreamPosition). place.position) next.ensures.behind in
    let latest = ap (λ (place : StreamPosition). place.latest) next.ensures.behind in
    let bounds = next.ensures.bounds in
    let piece : WaitingPiece = record { len = c.args.len; instant = c.args.instant } in
    let more = total_len-append inside.waiting.items piece in
    let all = ap total_len c.push.ensures.items in
    record {
      total = omega (arith, position, kept.total, more, all);
      few = omega (arith, position, bounds.2);
      waits = subst (λ latest. CameBy latest c.push.new.self.items) (sym latest)
          (subst (CameBy c.args.instant) (sym c.push.ensures.items)
          (came-append c.args.instant inside.waiting.items piece
          (came-later inside.so_far.latest c.args.instant inside.waiting.items bounds.0 kept.waits) bounds.1 (omega arith)));
      ended = ap (λ (place : StreamPosition). place.ended) next.ensures.behind ∙ kept.ended;
    }

pub returns-clause-hears : goal.returns-clause-hears
returns-clause-hears c =
    let inside = c.self.inside in
    let kept = c.self.invariant in
    let next = c.in_ok-self-inside in
    subst (λ old. HearsPiece old (plain_core inside.given c.push.new.self.items inside.end next.field-0) c.args.len c.args.instant (Ok tt)) c.self.view_is
    (subst (λ waiting. HearsPiece (plain_core inside.given inside.waiting.items inside.end inside.so_far)
    (plain_core inside.given waiting inside.end next.field-0) c.args.len c.args.instant (Ok tt)) (sym c.push.ensures.items)
    (plain-hears inside.given inside.waiting.items inside.end inside.so_far next.field-0 c.args.len c.args.instant kept.ended next.ensures.bounds.3
    kept.total next.ensures.behind next.ensures.accepted))
