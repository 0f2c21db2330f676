-- The piece at the span's start has its bytes.
use Rattle.std.proofs.Common.{length, ap, arith}
use Rattle.tox_lend.specs.Run.{Run}
use Rattle.tox_link.proofs.HeldLemmas.{IsFront, found-holds, never-none, front-part}
use Rattle.tox_link.proofs.steps.front.front_of.Goals as goal

pub unreachable-requires : goal.unreachable-requires
unreachable-requires c = never-none c.args.window.now c.args.span.now c.requires.held c.requires.some c.in_default.ensures

pub overflow_sub-left : goal.overflow_sub-left
overflow_sub-left c =
    let here = found-holds c.args.window.now c.args.span.now c.in-Some.piece.now c.requires.held c.requires.some c.in-Some.ensures in
    let start_is = ap (λ (piece : Run). piece.start) c.piece-2.view_is in
    omega (arith, here.from_start, start_is)

pub overflow_sub-left-2 : goal.overflow_sub-left-2
overflow_sub-left-2 c =
    let here = found-holds c.args.window.now c.args.span.now c.in-Some.piece.now c.requires.held c.requires.some c.in-Some.ensures in
    let start_is = ap (λ (piece : Run). piece.start) c.piece-2.view_is in
    let long = ap length c.as_slice-bytes.ensures.value in
    let len_is = ap (λ (piece : Run). length piece.bytes) c.piece-2.view_is in
    omega (arith, here.from_start, here.before_stop, start_is, long, len_is)

pub lend-requires : goal.lend-requires
lend-requires c =
    let here = found-holds c.args.window.now c.args.span.now c.in-Some.piece.now c.requires.held c.requires.some c.in-Some.ensures in
    let start_is = ap (λ (piece : Run). piece.start) c.piece-2.view_is in
    let long = ap length c.as_slice-bytes.ensures.value in
    let len_is = ap (λ (piece : Run). length piece.bytes) c.piece-2.view_is in
    record {
      from_start = here.from_start;
      in_order = omega arith;
      to_stop = omega (arith, here.from_start, here.before_stop, start_is, long, len_is, c.min.ensures);
    }

front : (c : goal.After-result-1) → IsFront c.args.span.now.start c.args.span.now.stop c.args.window.now.held c.lend.result.bytes.now
front c =
    let here = found-holds c.args.window.now c.args.span.now c.in-Some.piece.now c.requires.held c.requires.some c.in-Some.ensures in
    let start_is = ap (λ (piece : Run). piece.start) c.piece-2.view_is in
    let long = ap length c.as_slice-bytes.ensures.value in
    let len_is = ap (λ (piece : Run). length piece.bytes) c.piece-2.view_is in
    front-part c.in-Some.piece.now c.args.window.now.held c.args.span.now.start c.args.span.now.stop c.min.result c.lend.result.bytes.now here
    (omega (arith, here.from_start, here.before_stop, start_is, long, len_is, c.min.ensures, c.requires.some))
    (omega (arith, c.min.ensures, c.requires.some))
    (omega (arith, here.from_start, here.before_stop, start_is, long, len_is, c.min.ensures))
    c.lend.ensures.exact

pub returns-clause-some : goal.returns-clause-some
returns-clause-some c = (front c).some

pub returns-clause-few : goal.returns-clause-few
returns-clause-few c = (front c).few

pub returns-clause-bytes : goal.returns-clause-bytes
returns-clause-bytes c = (front c).part
