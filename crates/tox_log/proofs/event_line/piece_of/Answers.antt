-- The number is as it is printed.
use Rattle.std.proofs.Common.{ap, ◌++◌, codes, decimal, append_assoc}
use Rattle.tox_log.proofs.NoLines.{no_piece, reads-same, unread}
use Rattle.tox_log.proofs.event_line.piece_of.Goals as goal

pub returns : goal.returns
returns c = (ap (λ bytes. decimal c.args.reading.now ++ codes " piece " ++ bytes) c.in_ok-len.ensures.1, (c.requires, c.in_ok-len.ensures.0))

pub returns-in_err-len : goal.returns-in_err-len
returns-in_err-len c = reads-same _ _ _ (simp append_assoc) (unread _ _ c.from_residual.ensures
    (no_piece c.args.reading.now c.args.bytes.now c.requires c.in_err-len.ensures))
