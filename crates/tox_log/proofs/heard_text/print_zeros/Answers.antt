-- Two digits for each byte.
use Rattle.std.proofs.Common.{◌≡◌, ap, ℕ, ◌*◌, arith}
use Rattle.std.specs.Prelude.{replicate}
use Rattle.tox_log.proofs.HeardParts.{zeros-behind, zeros-more}
use Rattle.tox_text.proofs.Printings.{Prints-as, Prints-failed, Prints-none, Prints-then}
use Rattle.tox_log.proofs.heard_text.print_zeros.Goals as goal

pub loop-init : goal.loop-init
loop-init g c = Prints-none c.requires

pub loop-preserved : goal.loop-preserved
loop-preserved g c = Prints-as (zeros-more c.loop.counter) (Prints-then c.loop.invariant c.in_ok-print.ensures)

pub returns-in_err-print : goal.returns-in_err-print
returns-in_err-print g c =
    Prints-as (zeros-behind c.loop.counter c.args.len (omega arith)) (Prints-failed _ c.from_residual.ensures.1 (Prints-then c.loop.invariant c.in_err-print.ensures))

pub returns : goal.returns
returns g c =
    let all : c.loop.counter ≡ c.args.len = omega arith in
    Prints-as (ap (λ (n : ℕ). replicate (2 * n) 48) all) c.loop.invariant
