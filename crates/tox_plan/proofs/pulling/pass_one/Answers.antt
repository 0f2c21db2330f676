-- A cursor that has nothing left gives what its operation makes of what comes.
use Rattle.std.proofs.Common.{rules, ◌≡◌, Some, subst}
use Rattle.tox_words.specs.Draw.{draws_of}
use Rattle.tox_defs.specs.declared.operations.op_cursor.Emission.TheVariants.{Piece}
use Rattle.tox_plan.specs.OpCursors.{MatchPulled}
use Rattle.tox_plan.proofs.Pulls.{passed-piece}
use Rattle.tox_plan.proofs.pulling.pass_one.Goals as goal

pub returns-in-Some-Piece-clause-pulled : goal.returns-in-Some-Piece-clause-pulled
returns-in-Some-Piece-clause-pulled c =
    λ source old new pulled.
    let came : c.args.pulled.now ≡ Some (Piece c.in-Some-Piece.piece) = search rules in
    passed-piece (draws_of c.args.drawing.now) c.args.start old new c.args.cursor.now c.advance.new.cursor source c.in-Some-Piece.piece c.advance.result
    c.requires.read.open_yet c.requires.read.read (c.requires.read.nested.heard c.requires.read.open_yet)
    (subst (λ given. MatchPulled (draws_of c.args.drawing.now) c.args.start old new source given) came pulled) c.advance.ensures.given
