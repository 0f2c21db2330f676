-- The end comes behind the pieces.
use Rattle.std.proofs.Common.{◌+◌, [], ◌∷◌, ap, ◌∙◌, length, length-append, arith}
use Rattle.rtrb.specs.Ring.{sent}
use Rattle.tox_link.specs.declared.ring.message.Message.TheVariants.{End}
use Rattle.tox_link.proofs.Sent.{sent_end}
use Rattle.tox_link.proofs.ring.read_loop.read_all.Goals as goal

pub returns-clause-reads : goal.returns-clause-reads
returns-clause-reads g c =
    let same = sent_end (sent c.read_pieces-end.new.sender) (sent c.send.new.sender) c.read_pieces-end.result c.send.ensures.sent in
    let long = ap length c.send.ensures.sent ∙ length-append (sent c.read_pieces-end.new.sender) (End c.read_pieces-end.result ∷ []) in
    record {
      ended = (sent c.read_pieces-end.new.sender, c.send.ensures.sent, c.read_pieces-end.ensures.pieces);
      hands_on = rw same c.read_pieces-end.ensures.bytes;
      cause = rw same c.read_pieces-end.ensures.end;
      few = omega (arith, long, c.read_pieces-end.ensures.few);
      spent = λ used_up. long ∙ ap (λ n. n + 1) (c.read_pieces-end.ensures.spent used_up);
    }
