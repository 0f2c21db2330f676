-- One line behind the other.
use Rattle.std.proofs.Common.{◌≤◌, arith, length, map}
use Rattle.std.specs.List.{zip}
use Rattle.std.proofs.lemmas.List.{length-map}
use Rattle.std.proofs.lemmas.Slice.Zip.{length-zip}
use Rattle.tox_defs.specs.declared.toxic.Toxic.TheVariants.{Latency}
use Rattle.tox_log.specs.HeaderText.{printed_name, toxic_line}
use Rattle.tox_text.proofs.Listed.{IsAt-named}
use Rattle.tox_text.proofs.Printings.{Prints-all, Prints-more, Prints-none, Prints-stopped}
use Rattle.tox_log.proofs.header_text.print_toxics.Goals as goal

pub loop-place-init : goal.loop-place-init
loop-place-init g c = Prints-none c.requires.working

pub loop-place-preserved : goal.loop-place-preserved
loop-place-preserved g c =
    let here = IsAt-named printed_name c.args.entries.now c.args.names.now c.loop-place.place (record { toxic = Latency 0 0 0 0; toxicity = 0 })
    c.index-names-place.result c.requires.one_each c.loop-place-test.true c.index-names-place.is in
    Prints-more (λ named. toxic_line named.0 named.1) here c.loop-place.invariant (rw c.deref.ensures at c.in_ok-print_toxic.ensures)

pub returns-in_err-print_toxic : goal.returns-in_err-print_toxic
returns-in_err-print_toxic g c =
    let here = IsAt-named printed_name c.args.entries.now c.args.names.now c.loop-place.place (record { toxic = Latency 0 0 0 0; toxicity = 0 })
    c.index-names-place.result c.requires.one_each c.loop-place-test.true c.index-names-place.is in
    Prints-stopped (λ named. toxic_line named.0 named.1) here c.from_residual.ensures.1 c.loop-place.invariant
    (rw c.deref.ensures at c.in_err-print_toxic.ensures)

pub returns : goal.returns
returns g c =
    let past : length (zip c.args.entries.now (map printed_name c.args.names.now)) ≤ c.loop-place.place =
    omega (arith, length-zip c.args.entries.now (map printed_name c.args.names.now), length-map c.args.names.now printed_name, c.loop-place-test.false) in
    Prints-all (λ named. toxic_line named.0 named.1) _ _ past c.loop-place.invariant
