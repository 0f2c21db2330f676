-- What a read gave is kept, or the source has ended.
use Rattle.std.proofs.Common.{refl, sym, ap, ◌∙◌, arith, [], take}
use Rattle.std.specs.Io.KnownBytes.{prepend_known}
use Rattle.tox_link.proofs.CarryLemmas.{prepend-nil}
use Rattle.tox_link.proofs.DriveLemmas.{drove-read, drove-none, move-few}
use Rattle.tox_link.proofs.direction.reading_once.read_once.Goals as goal

pub returns-in_err-end_source-clause-drove : goal.returns-in_err-end_source-clause-drove
returns-in_err-end_source-clause-drove g c =
    let left = g.S.PollSource.remaining c.poll_read.new.self in
    λ written.
    drove-read 1 _ (g.C.Clock.reported c.args.clock.now) c.args.link.now c.end_source.new.link _ (prepend_known [] left) left written written _ _
    (move-few c.from_residual.result)
    (sym c.in_default.ensures.fault.1 ∙ prepend-nil left) (c.end_source.ensures.drove [] left written (λ came long. refl))

pub returns-in_default-clause-drove : goal.returns-in_default-clause-drove
returns-in_default-clause-drove g c =
    let left = g.S.PollSource.remaining c.poll_read.new.self in
    λ written.
    drove-read 1 1 (g.C.Clock.reported c.args.clock.now) c.args.link.now c.end_source.new.link _ (prepend_known [] left) left written written _ _ (omega arith)
    (sym c.in_default.ensures.fault.1 ∙ prepend-nil left) (c.end_source.ensures.drove [] left written (λ came long. refl))

pub returns-in_default-got-clause-drove : goal.returns-in_default-got-clause-drove
returns-in_default-got-clause-drove g c =
    let left = g.S.PollSource.remaining c.poll_read.new.self in
    λ written.
    drove-read 0 0 (g.C.Clock.reported c.args.clock.now) c.args.link.now c.args.link.now _ left left written written _ _ (omega arith)
    (sym (rw c.in_default-got.is at c.in-Ok.ensures.bytes)) (drove-none (g.C.Clock.reported c.args.clock.now) c.args.link.now _)

pub returns-in_err-end_source-2-clause-drove : goal.returns-in_err-end_source-2-clause-drove
returns-in_err-end_source-2-clause-drove g c =
    let left = g.S.PollSource.remaining c.poll_read.new.self in
    λ written.
    drove-read 1 _ (g.C.Clock.reported c.args.clock.now) c.args.link.now c.end_source-then-count-eq0.new.link _ (prepend_known [] left) left written written _ _
    (move-few c.from_residual-in_err-end_source-2.result)
    ((rw c.in-Some.is at c.in-Ok.ensures.bytes) ∙ ap (λ n. prepend_known (take n c.poll_read.new.buffer) left) c.if-count-eq0.true)
    (c.end_source-then-count-eq0.ensures.drove [] left written (λ came long. refl))

pub returns-in_err-keep_read-clause-drove : goal.returns-in_err-keep_read-clause-drove
returns-in_err-keep_read-clause-drove g c =
    let left = g.S.PollSource.remaining c.poll_read.new.self in
    λ written.
    drove-read 1 _ (g.C.Clock.reported c.args.clock.now) c.args.link.now c.keep_read.new.link _
    (prepend_known (take c.in-Some.count c.poll_read.new.buffer) left) left written written _ _ (move-few c.from_residual-in_err-keep_read.result)
    (rw c.in-Some.is at c.in-Ok.ensures.bytes) (c.keep_read.ensures.drove left written)
