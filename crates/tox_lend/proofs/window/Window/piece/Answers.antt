-- The pieces that end by the position come first, and the next one has it, or none.
use Rattle.std.proofs.Common.{◌<◌, ◌≤◌, ◌∙◌, length, sym, ap, rules, subst}
use Rattle.std.specs.Option.{option_copied}
use Rattle.tox_lend.proofs.WindowLemmas.{EndBy, find_here, find_none, find_past}
use Rattle.tox_lend.proofs.window.Window.piece.Goals as goal

pub returns-in_err-piece : goal.returns-in_err-piece
returns-in_err-piece c =
    let ended : EndBy c.args.position c.self.inside.held.items c.ended_by.result =
    subst (λ w. EndBy c.args.position w.held c.ended_by.result) (sym c.self.view_is) c.ended_by.ensures.ended in
    let past : length c.self.inside.held.items ≤ c.ended_by.result = search rules in
    ap option_copied c.from_residual.ensures
    ∙ sym (rw (← c.self.view_is) (find_none c.args.position c.ended_by.result c.self.inside.held.items (search rules) ended past))

pub returns-then-position-piece : goal.returns-then-position-piece
returns-then-position-piece c =
    let ended : EndBy c.args.position c.self.inside.held.items c.ended_by.result =
    subst (λ w. EndBy c.args.position w.held c.ended_by.result) (sym c.self.view_is) c.ended_by.ensures.ended in
    let below : c.ended_by.result < length c.self.inside.held.items = search rules in
    sym (rw (← c.self.view_is) (find_past c.self.inside.stop c.args.position c.ended_by.result c.self.inside.held.items c.in_ok-piece.piece.now
    c.self.invariant.joined ended below c.in_ok-piece.ensures.lookup (rw (← c.piece.view_is) c.if-position-piece.true)))

pub returns : goal.returns
returns c =
    let ended : EndBy c.args.position c.self.inside.held.items c.ended_by.result =
    subst (λ w. EndBy c.args.position w.held c.ended_by.result) (sym c.self.view_is) c.ended_by.ensures.ended in
    let below : c.ended_by.result < length c.self.inside.held.items = search rules in
    sym (rw (← c.self.view_is) (find_here c.args.position c.ended_by.result c.self.inside.held.items c.in_ok-piece.piece.now ended below
    c.in_ok-piece.ensures.lookup (rw (← c.piece.view_is) c.if-position-piece.false)))
