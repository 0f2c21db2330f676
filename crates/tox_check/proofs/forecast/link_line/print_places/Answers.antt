-- One place behind the other.
use Rattle.std.proofs.Common.{◌≤◌, arith, length, false, get_or}
use Rattle.std.specs.List.{enumerate_from}
use Rattle.std.proofs.lemmas.List.FromFn.{length-enumerate_from}
use Rattle.tox_check.specs.forecast.ForecastText.{place_text}
use Rattle.tox_text.proofs.Listed.{IsAt-enumerate, IsAt-read}
use Rattle.tox_text.proofs.Printings.{Prints-all, Prints-more, Prints-none, Prints-stopped}
use Rattle.tox_check.proofs.forecast.link_line.print_places.Goals as goal

pub loop-place-init : goal.loop-place-init
loop-place-init g c = Prints-none c.requires

pub loop-place-preserved : goal.loop-place-preserved
loop-place-preserved g c =
    let here = IsAt-enumerate c.args.flags.now c.loop-place.place (get_or c.args.flags.now c.loop-place.place false)
    (IsAt-read c.args.flags.now c.loop-place.place false c.loop-place-test.true) in
    Prints-more (λ placed. place_text placed.0 placed.1) here c.loop-place.invariant c.in_ok-print_place.ensures

pub returns-in_err-print_place : goal.returns-in_err-print_place
returns-in_err-print_place g c =
    let here = IsAt-enumerate c.args.flags.now c.loop-place.place (get_or c.args.flags.now c.loop-place.place false)
    (IsAt-read c.args.flags.now c.loop-place.place false c.loop-place-test.true) in
    Prints-stopped (λ placed. place_text placed.0 placed.1) here c.from_residual.ensures.1 c.loop-place.invariant c.in_err-print_place.ensures

pub returns : goal.returns
returns g c =
    let past : length (enumerate_from 0 c.args.flags.now) ≤ c.loop-place.place =
    omega (arith, length-enumerate_from 0 c.args.flags.now, c.loop-place-test.false) in
    Prints-all (λ placed. place_text placed.0 placed.1) _ _ past c.loop-place.invariant
