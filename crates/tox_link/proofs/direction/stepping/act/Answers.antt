-- What the core says, and then a read.
use Rattle.std.proofs.Common.{◌≡◌, ◌++◌, [], Some, None, ap, sym, subst, ◌∙◌, arith}
use Rattle.tox_link.specs.declared.direction.polled_link.PolledLink.{PolledLink}
use Rattle.tox_link.specs.declared.link_core.act.Act.{Act}
use Rattle.tox_link.specs.direction.Driven.{begun_by, steps_of_act}
use Rattle.tox_link.specs.log.Logged.{HasEnded}
use Rattle.tox_link.proofs.DriveLemmas.{drove-less, drove-then, says-asked}
use Rattle.tox_link.proofs.LoggedLemmas.{ended-so}
use Rattle.tox_link.proofs.direction.stepping.act.Goals as goal

pub read_or_wait-requires-clause-says : goal.read_or_wait-requires-clause-says
read_or_wait-requires-clause-says g c =
    let asked = c.ask-act in (
      asked.ensures.reported,
      says-asked c.args.link.now.core asked.new.link.core asked.new.link.core.latest asked.result (Some c.in-WaitUntil.instant)
          asked.ensures.answered c.in-WaitUntil.is,
    )

pub read_or_wait-requires-in-WaitForInput-clause-says : goal.read_or_wait-requires-in-WaitForInput-clause-says
read_or_wait-requires-in-WaitForInput-clause-says g c =
    let asked = c.ask-act in (
      asked.ensures.reported,
      says-asked c.args.link.now.core asked.new.link.core asked.new.link.core.latest asked.result None asked.ensures.answered
          c.in-WaitForInput.is,
    )

pub returns-in-Write-clause-drove : goal.returns-in-Write-clause-drove
returns-in-Write-clause-drove g c =
    let reported = g.C.Clock.reported c.args.clock.now in
    let asked = c.ask-act in
    let more = c.ask_further in
    let one : steps_of_act asked.result ≡ 1 = ap steps_of_act c.in-Write.is in
    λ written.
    drove-less _ 1 reported c.args.link.now more.new.link _ _ (omega (arith, one))
    (drove-then reported _ 0 c.args.link.now asked.new.link more.new.link _ _ _
    (asked.ensures.drove (g.S.PollSource.remaining c.args.source.now) written (g.N.Notes.events c.args.notes.now))
    (more.ensures.drove (g.S.PollSource.remaining c.args.source.now) written (g.N.Notes.events c.args.notes.now)))

pub returns-in-WaitUntil-clause-drove : goal.returns-in-WaitUntil-clause-drove
returns-in-WaitUntil-clause-drove g c =
    let reported = g.C.Clock.reported c.args.clock.now in
    let asked = c.ask-act in
    let waited = c.read_or_wait in
    λ written.
    drove-less _ _ reported c.args.link.now waited.new.link _ _ (omega arith)
    (drove-then reported _ _ c.args.link.now asked.new.link waited.new.link _ _ _
    (asked.ensures.drove (g.S.PollSource.remaining c.args.source.now) written (g.N.Notes.events c.args.notes.now)) (waited.ensures.drove written))

pub returns-in-WaitForInput-clause-drove : goal.returns-in-WaitForInput-clause-drove
returns-in-WaitForInput-clause-drove g c =
    let reported = g.C.Clock.reported c.args.clock.now in
    let asked = c.ask-act in
    let waited = c.read_or_wait-in-WaitForInput in
    λ written.
    drove-less _ _ reported c.args.link.now waited.new.link _ _ (omega arith)
    (drove-then reported _ _ c.args.link.now asked.new.link waited.new.link _ _ _
    (asked.ensures.drove (g.S.PollSource.remaining c.args.source.now) written (g.N.Notes.events c.args.notes.now)) (waited.ensures.drove written))

pub returns-in-End-clause-drove : goal.returns-in-End-clause-drove
returns-in-End-clause-drove g c =
    let asked = c.ask-act in
    λ written.
    drove-less _ 0 (g.C.Clock.reported c.args.clock.now) c.args.link.now asked.new.link _ _ (omega arith)
    (asked.ensures.drove (g.S.PollSource.remaining c.args.source.now) written (g.N.Notes.events c.args.notes.now))

pub returns-in-End-clause-progress : goal.returns-in-End-clause-progress
returns-in-End-clause-progress g c =
    let reported = g.C.Clock.reported c.args.clock.now in
    let asked = c.ask-act in
    λ waits due. record {
      idle = ap (λ (link : PolledLink). link.unwritten.items) asked.ensures.same
          ∙ ap (λ (act : Act). c.args.link.now.unwritten.items ++ begun_by act asked.new.link.core.latest) c.in-End.is
          ∙ ap (λ items. items ++ []) c.requires.idle;
      ended = subst (λ ended. HasEnded reported asked.new.link.core ended c.in-End.ending) (sym (ap (λ (link : PolledLink). link.ended) asked.ensures.same))
          (ended-so reported c.args.link.now.core asked.new.link.core asked.new.link.core.latest asked.result c.in-End.ending c.args.link.now.ended
          asked.ensures.answered c.in-End.is asked.ensures.reported c.requires.ready.held.going);
    }
