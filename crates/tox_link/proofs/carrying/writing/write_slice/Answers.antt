-- One more part of the slice is written.
use Rattle.std.proofs.Common.{length, take, drop, ap, ◌∙◌, arith}
use Rattle.std.specs.Io.KnownBytes.{append_known}
use Rattle.std.proofs.lemmas.List.{take-take}
use Rattle.tox_link.proofs.HeldLemmas.{written_more}
use Rattle.tox_link.proofs.carrying.writing.write_slice.Goals as goal

pub loop-start-preserved : goal.loop-start-preserved
loop-start-preserved g c =
    let on = c.loop-start.invariant in
    let count = length c.front_of-front.result.now in
    record {
      from_start = omega (arith, on.from_start);
      to_stop = c.front_of-front.ensures.few;
      working = c.in-Ok.ensures.ok.1;
      written = λ base heard parts before.
          written_more base (g.W.Sink.written c.loop-start.writer) (g.W.Sink.written c.write_all.new.writer) heard c.loop-start.start count
          (on.written base heard parts before)
          (c.in-Ok.ensures.ok.0 ∙ ap (append_known (g.W.Sink.written c.loop-start.writer)) (c.front_of-front.ensures.bytes heard parts));
    }

pub returns-in-Err-clause-err : goal.returns-in-Err-clause-err
returns-in-Err-clause-err g c =
    let on = c.loop-start.invariant in
    let done = c.in-Err.done in
    let front = c.front_of-front.result.now in
    λ base heard parts before.
    written_more base (g.W.Sink.written c.loop-start.writer) (g.W.Sink.written c.write_all.new.writer) heard c.loop-start.start done
    (on.written base heard parts before)
    (c.in-Err.ensures.err.1 ∙ ap (λ bytes. append_known (g.W.Sink.written c.loop-start.writer) (take done bytes)) (c.front_of-front.ensures.bytes heard parts)
    ∙ ap (append_known (g.W.Sink.written c.loop-start.writer)) (take-take done (length front) (drop c.loop-start.start heard) c.in-Err.ensures.err.0))
    ∙ ap (λ n. append_known base (take n heard)) (omega (arith, on.from_start))
