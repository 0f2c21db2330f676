-- The parts of a new direction are new, and those of its course.
use Rattle.std.proofs.Common.{◌≡◌, None, rules}
use Rattle.std.specs.Prelude.{fold}
use Rattle.tox_sockets.specs.ResetDue.{after_op}
use Rattle.tox_serve.proofs.workers.flow.Flow.new.Goals as goal

pub returns-clause-begins : goal.returns-clause-begins
returns-clause-begins g c =
    let link : c.of.result.link.value ≡ c.in_ok-link.link = search rules in
    let due : c.in_ok-sink.sink.due ≡ fold after_op None c.args.course.plan.ops = search rules in
    record {
      its = c.of.ensures.stream;
      source = rw c.of.ensures.source c.in_ok-source.ensures.stream;
      sink = rw c.of.ensures.sink c.in_ok-sink.ensures.stream;
      readable = rw c.of.ensures.source c.in_ok-source.ensures.fresh.0;
      closes = rw c.of.ensures.source c.in_ok-source.ensures.fresh.1;
      writable = rw c.of.ensures.sink c.in_ok-sink.ensures.fresh.1;
      due = rw c.of.ensures.sink due;
      meaning = λ items is. rw link (c.in_ok-link.ensures.meaning items is);
      fresh = rw link c.in_ok-link.ensures.fresh;
    }
