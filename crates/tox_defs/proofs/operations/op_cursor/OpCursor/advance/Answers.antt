-- What a look finds is what comes next from the cursor.
use Rattle.tox_words.specs.Draw.{draws_of}
use Rattle.tox_defs.proofs.OpCursors.{cursor_at_piece, cursor_at_last_piece, cursor_at_end, cursor_at_uncounted}
use Rattle.tox_defs.proofs.operations.op_cursor.OpCursor.advance.Goals as goal

pub returns-in-Piece : goal.returns-in-Piece
returns-in-Piece c =
    rw c.add_piece_of.ensures
    (cursor_at_piece (draws_of c.args.drawing.now) c.args.start c.args.self.now c.in-Piece.piece c.requires.open c.requires.some c.requires.sound
    (λ items. rw c.in-Piece.is at (c.look.ensures.finds items)) (rw c.in-Piece.is at c.look.ensures.front))

pub returns-in-LastPiece : goal.returns-in-LastPiece
returns-in-LastPiece c =
    rw (c.add_ending.ensures, c.add_chunk.ensures, c.add_piece.ensures)
    (cursor_at_last_piece (draws_of c.args.drawing.now) c.args.start c.args.self.now c.in-LastPiece.piece c.in-LastPiece.ending c.requires.open c.requires.some
    c.requires.sound (λ items. rw c.in-LastPiece.is at (c.look.ensures.finds items)) (rw c.in-LastPiece.is at c.look.ensures.front))

pub returns-in-Ended : goal.returns-in-Ended
returns-in-Ended c =
    rw (c.add_ending-in-Ended.ensures, c.add_chunk-in-Ended.ensures)
    (cursor_at_end (draws_of c.args.drawing.now) c.args.start c.args.self.now c.in-Ended.ending c.requires.open c.requires.some
    (λ items. rw c.in-Ended.is at (c.look.ensures.finds items)))

pub returns-in-Uncounted : goal.returns-in-Uncounted
returns-in-Uncounted c =
    rw c.add_uncounted.ensures
    (cursor_at_uncounted (draws_of c.args.drawing.now) c.args.start c.args.self.now c.in-Uncounted.piece c.requires.open c.requires.some c.requires.sound
    (λ items. rw c.in-Uncounted.is at (c.look.ensures.finds items)) (rw c.in-Uncounted.is at c.look.ensures.front))
