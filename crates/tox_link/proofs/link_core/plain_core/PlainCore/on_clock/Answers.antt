-- The first piece that waits is given whole.
use Rattle.std.proofs.Common.{◌≡◌, ◌+◌, ◌<◌, ◌≤◌, false, List, [], ◌∷◌, length, ap, subst, sym, ◌∙◌, arith}
use Rattle.std.specs.Prelude.{◌==◌, remove, slice_index_or}
use Rattle.tox_link.specs.declared.link_core.act.Act.TheVariants.{Write}
use Rattle.tox_link.specs.declared.link_core.waiting.WaitingPiece.{WaitingPiece}
use Rattle.tox_link.specs.link_core.Acts.{Answered}
use Rattle.tox_link.specs.link_core.CoreKept.{total_len}
use Rattle.tox_link.specs.link_core.Plain.{plain_core}
use Rattle.tox_link.specs.link_core.PlainInside.{CameBy}
use Rattle.tox_link.proofs.PlainLemmas.{came-later, given_core, given_slice, plain-gives}
use Rattle.tox_link.proofs.link_core.plain_core.PlainCore.on_clock.Goals as goal

some : (pieces : List WaitingPiece) → false ≡ (length pieces == 0) → 0 < length pieces
some [] is = absurd (cc)
some (piece ∷ pieces) is = omega arith

-- the pieces are the first one and those behind it
split : (pieces : List WaitingPiece) (first : WaitingPiece) → 0 < length pieces → first ≡ slice_index_or pieces 0 first → pieces ≡ first ∷ remove pieces 0
split [] first some is = absurd (omega (arith, some))
split (piece ∷ pieces) first some is = ap (λ first. first ∷ pieces) (sym is)

pub returns : goal.returns
returns c =
    let inside = c.self.inside in
    let piece = c.remove-piece.result in
    let more = c.remove-piece.new.self.items in
    let items : inside.waiting.items ≡ piece ∷ more = split inside.waiting.items piece
    (some inside.waiting.items (sym c.if-is_empty.false ∙ c.is_empty.ensures)) c.remove-piece.ensures.value
    ∙ ap (λ more. piece ∷ more) (sym c.remove-piece.ensures.items) in
    let came : CameBy inside.so_far.latest (piece ∷ more) = subst (CameBy inside.so_far.latest) items c.self.invariant.waits in
    let all = ap total_len items in
    let total : inside.given + piece.len ≤ inside.so_far.position = omega (arith, all, c.self.invariant.total) in
    let later : inside.so_far.latest ≤ c.args.now = subst (λ core. core.latest ≤ c.args.now) (sym c.self.view_is) c.requires in
    let new = given_core inside.given c.args.now piece more inside.end inside.so_far came.0 came.1 later total in
    let slice = given_slice inside.given c.args.now piece more inside.end inside.so_far came.0 came.1 later total in
    subst (λ old. Answered old new c.args.now (Write slice)) c.self.view_is
    (subst (λ waiting. Answered (plain_core inside.given waiting inside.end inside.so_far) new c.args.now (Write slice)) (sym items)
    (plain-gives inside.given c.args.now piece more inside.end inside.so_far came.0 came.1 later total))

pub invariant_of-self-2 : goal.invariant_of-self-2
invariant_of-self-2 c =
    let inside = c.self.inside in
    let piece = c.remove-piece.result in
    let more = c.remove-piece.new.self.items in
    let items : inside.waiting.items ≡ piece ∷ more = split inside.waiting.items piece
    (some inside.waiting.items (sym c.if-is_empty.false ∙ c.is_empty.ensures)) c.remove-piece.ensures.value
    ∙ ap (λ more. piece ∷ more) (sym c.remove-piece.ensures.items) in
    let came : CameBy inside.so_far.latest (piece ∷ more) = subst (CameBy inside.so_far.latest) items c.self.invariant.waits in
    let all = ap total_len items in
    let later : inside.so_far.latest ≤ c.args.now = subst (λ core. core.latest ≤ c.args.now) (sym c.self.view_is) c.requires in
    record {
      total = omega (arith, all, c.self.invariant.total);
      few = c.self.invariant.few;
      waits = came-later inside.so_far.latest c.args.now more later came.2;
      ended = c.self.invariant.ended;
    }
