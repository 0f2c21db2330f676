-- A write appends the next bytes.
use Rattle.std.proofs.Common.{rules, ◌≡◌, ◌-◌, length, take, drop, length-drop, arith}
use Rattle.std.proofs.lemmas.List.{take_all}
use Rattle.tox_link.proofs.HeldLemmas.{written_more}
use Rattle.tox_link.proofs.carrying.writing.write_all.Goals as goal

pub loop-done-preserved : goal.loop-done-preserved
loop-done-preserved g c =
    let bytes = c.args.bytes.now in
    let done = c.loop-done.done in
    let count = c.in-Ok.count in
    let short : length (drop done bytes) ≡ length bytes - done = length-drop done bytes in
    let all : take (length bytes - done) (drop done bytes) ≡ drop done bytes = take_all (length bytes - done) (drop done bytes) (omega arith) in
    let fits = rw all at c.in-Ok.ensures.count in
    let within = c.loop-done.invariant.within in
    record {
      within = omega arith;
      written = written_more (g.W.Sink.written c.args.writer.now) (g.W.Sink.written c.loop-done.writer) (g.W.Sink.written c.write.new.self) bytes done count
          c.loop-done.invariant.written (rw all at c.in-Ok.ensures.bytes);
      working = search rules;
    }
