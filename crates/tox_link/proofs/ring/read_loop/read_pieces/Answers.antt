-- One more piece was sent.
use Rattle.std.proofs.Common.{rules, ◌≡◌, ◌+◌, ◌<◌, ◌^◌, [], ◌∷◌, ◌++◌, length, take, ap, sym, ◌∙◌, subst, append-nil, arith, length-take-le, length-append}
use Rattle.rtrb.specs.Ring.{sent}
use Rattle.tox_link.specs.declared.ring.message.Message.TheVariants.{Piece}
use Rattle.tox_link.specs.ring.Messages.{bytes_of, ArePieces}
use Rattle.tox_link.proofs.Sent.{prepend_more, sent_more, pieces-append}
use Rattle.tox_link.proofs.ring.read_loop.read_pieces.Goals as goal

pub returns-then-count-total-clause-bytes : goal.returns-then-count-total-clause-bytes
returns-then-count-total-clause-bytes g c =
    let given = take c.in-Ok.count c.read-answer.new.buffer in
    let bytes = bytes_of (sent c.loop-nth.sender) in
    let long : length given ≡ c.in-Ok.count = length-take-le c.in-Ok.count c.read-answer.new.buffer c.in-Ok.ensures.count in
    let both : length (bytes ++ given) ≡ length bytes + length given = length-append bytes given in
    let more : 2 ^ 40 < length (bytes ++ given) = omega (arith, both, long, c.if-count-total.true, c.loop-nth.invariant.total) in
    (given, prepend_more _ _ _ _ _ c.loop-nth.invariant.bytes c.in-Ok.ensures.bytes, more)

pub returns-in_default-with_bytes-clause-bytes : goal.returns-in_default-with_bytes-clause-bytes
returns-in_default-with_bytes-clause-bytes g c = (
  take c.in-Ok.count c.read-answer.new.buffer,
  prepend_more _ _ _ _ _ c.loop-nth.invariant.bytes c.in-Ok.ensures.bytes,
  tt,
)

pub loop-nth-preserved : goal.loop-nth-preserved
loop-nth-preserved g c =
    let count = c.in-Ok.count in
    let given = take count c.read-answer.new.buffer in
    let piece = c.in-Ok-with_bytes.piece in
    let one : bytes_of (Piece piece ∷ []) ≡ given = append-nil piece.items ∙ c.in-Ok-with_bytes.ensures in
    let bytes : bytes_of (sent c.send.new.sender) ≡ bytes_of (sent c.loop-nth.sender) ++ given
    = sent_more (sent c.loop-nth.sender) (sent c.send.new.sender) (Piece piece) given c.send.ensures.sent one in
    let long : length given ≡ count = length-take-le count c.read-answer.new.buffer c.in-Ok.ensures.count in
    let total : length (bytes_of (sent c.send.new.sender)) ≡ length (bytes_of (sent c.loop-nth.sender)) + count
    = ap length bytes ∙ length-append (bytes_of (sent c.loop-nth.sender)) given ∙ ap (λ n. length (bytes_of (sent c.loop-nth.sender)) + n) long in
    record {
      ring = search rules;
      pieces = subst ArePieces (sym c.send.ensures.sent) (pieces-append (sent c.loop-nth.sender) (Piece piece ∷ []) c.loop-nth.invariant.pieces tt);
      bytes = rw bytes (prepend_more _ _ _ _ _ c.loop-nth.invariant.bytes c.in-Ok.ensures.bytes);
      working = c.in-Ok.ensures.working;
      total = omega (arith, total);
      most = omega arith;
      each = omega arith;
      count = ap length c.send.ensures.sent ∙ length-append (sent c.loop-nth.sender) (Piece piece ∷ []) ∙ ap (λ n. n + 1) c.loop-nth.invariant.count;
    }
