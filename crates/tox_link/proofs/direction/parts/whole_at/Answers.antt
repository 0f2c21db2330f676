-- A piece that starts there and stops with the slice has the bytes.
use Rattle.std.proofs.Common.{◌≡◌, length, take, drop, ap, sym, ◌∙◌, arith}
use Rattle.tox_lend.specs.Run.{Run}
use Rattle.tox_link.specs.declared.direction.unwritten.Unwritten.{Unwritten}
use Rattle.tox_link.proofs.HeldLemmas.{find-part}
use Rattle.tox_link.proofs.UnwrittenLemmas.{within-at}
use Rattle.tox_link.proofs.direction.parts.whole_at.Goals as goal

pub returns-then-bytes-le-READ_SIZE-clause-bytes : goal.returns-then-bytes-le-READ_SIZE-clause-bytes
returns-then-bytes-le-READ_SIZE-clause-bytes c =
    let run : Run = c.in-Some-Some.piece.now in
    let bytes = c.as_slice-bytes.result.now in
    let start : run.start ≡ c.args.at = sym (ap (λ (run : Run). run.start) c.piece-2.view_is) ∙ c.if-piece-at.true in
    let same : bytes ≡ run.bytes = c.as_slice-bytes.ensures.value ∙ ap (λ (run : Run). run.bytes) c.piece-2.view_is in
    λ position joined few.
    let next : Unwritten = c.in-Some-Some.next.now in
    let lookup = c.in-Some-Some.ensures.lookup in
    let within = within-at position c.args.unwritten.now c.args.nth next joined lookup.3.0 in
    let stop = ap (λ (next : Unwritten). next.slice.span.stop) lookup.1 in
    record {
      few = omega (arith, c.if-bytes-len.true, c.saturating_sub-len.ensures, within, stop, few);
      part = λ heard parts.
          same ∙ find-part c.args.at c.args.window.now.held run (sym c.in-Some-Some.ensures') heard parts
          ∙ ap (λ n. take n (drop run.start heard)) (ap length (sym same)) ∙ ap (λ at. take (length bytes) (drop at heard)) start;
    }
