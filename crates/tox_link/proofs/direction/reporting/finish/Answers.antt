-- What a direction reports follows from its history.
use Rattle.std.proofs.Common.{◌≡◌, ◌≤◌, length, length-take-le, take, drop, subst, sym, ◌∙◌, arith}
use Rattle.std.specs.Prelude.{IfSome}
use Rattle.tox_link.specs.link_core.Core.{core_position}
use Rattle.tox_link.specs.log.Logged.{IsCutOff}
use Rattle.tox_link.specs.Reports.{ReportsAt, WritesFirst}
use Rattle.tox_link.specs.ring.Messages.{IsUnsent}
use Rattle.tox_link.specs.Sources.{read_end_of}
use Rattle.tox_link.proofs.CarryLemmas.{link-reports, writes-first}
use Rattle.tox_link.proofs.DriveLemmas.{cut-follows, hands-on, writes-came}
use Rattle.tox_link.proofs.FollowLemmas.{bare}
use Rattle.tox_link.proofs.StepLemmas.{says-heard}
use Rattle.tox_link.proofs.UnwrittenLemmas.{idle-at}
use Rattle.tox_link.proofs.direction.reporting.finish.Goals as goal

pub returns-in-Ok-clause-log : goal.returns-in-Ok-clause-log
returns-in-Ok-clause-log g c =
    let reported = g.C.Clock.reported c.args.clock.now in
    let link = c.args.link in
    let over = rw c.in-Ok.is at c.requires.driven in
    let written = idle-at link.unwritten.items link.written (core_position link.core) c.requires.held.up_to over.idle in
    λ left history.
    subst (ReportsAt history.means reported history.log c.stop.result link.written c.in-Ok.ending (read_end_of link.source)) (sym c.latest.ensures)
    (link-reports history.means reported link.core link.ended history.log c.in-Ok.ending (read_end_of link.source) c.stop.result link.written
    (bare history.means reported link.core link.unwritten.items history.log over.idle history.follows.carried) history.follows.closed over.ended written
    (c.stop.ensures.value ∙ c.requires.held.stop))

pub returns-in-Ok-clause-of_heard : goal.returns-in-Ok-clause-of_heard
returns-in-Ok-clause-of_heard g c =
    let link = c.args.link in
    let over = rw c.in-Ok.is at c.requires.driven in
    λ left history. says-heard history.means (g.C.Clock.reported c.args.clock.now) link.core history.log
    (bare history.means (g.C.Clock.reported c.args.clock.now) link.core link.unwritten.items history.log over.idle history.follows.carried)

pub returns-in-Ok-clause-bytes : goal.returns-in-Ok-clause-bytes
returns-in-Ok-clause-bytes g c =
    let link = c.args.link in
    let held = c.requires.held in
    let over = rw c.in-Ok.is at c.requires.driven in
    let written = idle-at link.unwritten.items link.written (core_position link.core) held.up_to over.idle in
    let taken : c.stop.result ≡ link.core.bytes = c.stop.ensures.value ∙ held.stop in
    λ left history.
    let few : c.stop.result ≤ length history.came = omega (arith, taken, history.follows.few) in (
      writes-first history.given history.before history.after left history.came c.stop.result link.written (omega (arith, taken, written, held.within)) few
          history.read history.follows.wrote,
      length-take-le c.stop.result history.came few,
      hands-on (read_end_of link.source) history.given left c.stop.result history.came history.read
          (subst (λ n. IfSome (read_end_of link.source) (λ end. IsUnsent end (take n history.came) (drop n history.came))) (sym taken) history.follows.unsent),
    )

pub returns-clause-broken : goal.returns-clause-broken
returns-clause-broken g c =
    let reported = g.C.Clock.reported c.args.clock.now in
    let link = c.args.link in
    let count = rw c.in-Err.is at c.requires.driven in
    λ left history. (
      subst (λ written. IsCutOff history.means reported written history.log) (sym count)
          (cut-follows history.means reported link history.log history.came history.before history.after c.requires.held history.follows),
      subst (WritesFirst history.given history.before history.after history.came) (sym count)
          (writes-came link history.given history.before history.after left history.came c.requires.held history.follows.few history.read
          history.follows.wrote),
    )
