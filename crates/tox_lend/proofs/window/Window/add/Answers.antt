-- One more piece joins the others.
use Rattle.std.proofs.Common.{◌≡◌, ◌+◌, ◌∷◌, ◌++◌, [], arith, length, length-append, subst, sym, ap, ◌∙◌}
use Rattle.tox_lend.specs.Run.{stop_of}
use Rattle.tox_lend.specs.Window.{JoinUpTo}
use Rattle.tox_lend.proofs.WindowLemmas.{JoinUpTo-push}
use Rattle.tox_lend.proofs.window.Window.add.Goals as goal

pub invariant_of-self : goal.invariant_of-self
invariant_of-self c =
    let starts : c.args.piece.start ≡ c.self.inside.stop = c.requires.starts ∙ sym (ap (λ w. w.stop) c.self.view_is) in
    let stops : stop_of c.args.piece ≡ c.piece.inside.start + c.len.result = omega (arith, ap stop_of c.piece.view_is) in
    let joined : JoinUpTo (stop_of c.args.piece) (c.self.inside.held.items ++ c.args.piece ∷ []) =
    JoinUpTo-push c.self.inside.stop c.self.inside.held.items c.args.piece c.self.invariant.joined starts c.requires.some in
    let held = c.push_back_reserved.ensures.items in
    record {
      joined = rw held (subst (λ n. JoinUpTo n (c.self.inside.held.items ++ c.args.piece ∷ [])) stops joined);
      few = rw held (omega (
        arith,
        length-append c.self.inside.held.items (c.args.piece ∷ []),
        c.requires.room,
        ap (λ w. length w.held) c.self.view_is,
        ap (λ w. w.room) c.self.view_is,
      ));
      reserved = omega (arith, c.push_back_reserved.ensures.capacity, c.self.invariant.reserved);
    }
