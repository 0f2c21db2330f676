-- One line behind the other.
use Rattle.std.proofs.Common.{◌≤◌, arith, length, map, string_bytes}
use Rattle.std.specs.List.{enumerate_from, zip}
use Rattle.std.proofs.lemmas.List.FromFn.{length-enumerate_from}
use Rattle.std.proofs.lemmas.Slice.Zip.{length-zip}
use Rattle.tox_defs.specs.declared.toxic.Toxic.TheVariants.{Latency}
use Rattle.tox_words.specs.Draw.{draws_of}
use Rattle.tox_text.specs.PickText.{picked_toxic_line}
use Rattle.tox_text.proofs.Listed.{IsAt-placed}
use Rattle.tox_text.proofs.Printings.{Prints-all, Prints-more, Prints-none, Prints-stopped}
use Rattle.tox_text.proofs.pick_text.print_toxics.Goals as goal

pub loop-place-init : goal.loop-place-init
loop-place-init g c = Prints-none c.requires.working

pub loop-place-preserved : goal.loop-place-preserved
loop-place-preserved g c =
    let here = IsAt-placed string_bytes c.args.entries.now c.args.names.now c.loop-place.place (record { toxic = Latency 0 0 0 0; toxicity = 0 })
    c.index-names-place.result c.requires.one_each c.loop-place-test.true c.index-names-place.is in
    Prints-more (λ placed. picked_toxic_line (draws_of c.args.drawing.now) placed.0 placed.1.0 placed.1.1) here c.loop-place.invariant
    (rw c.deref.ensures at c.in_ok-print_toxic.ensures)

pub returns-in_err-print_toxic : goal.returns-in_err-print_toxic
returns-in_err-print_toxic g c =
    let here = IsAt-placed string_bytes c.args.entries.now c.args.names.now c.loop-place.place (record { toxic = Latency 0 0 0 0; toxicity = 0 })
    c.index-names-place.result c.requires.one_each c.loop-place-test.true c.index-names-place.is in
    Prints-stopped (λ placed. picked_toxic_line (draws_of c.args.drawing.now) placed.0 placed.1.0 placed.1.1) here c.from_residual.ensures.1
    c.loop-place.invariant (rw c.deref.ensures at c.in_err-print_toxic.ensures)

pub returns : goal.returns
returns g c =
    let named = zip c.args.entries.now (map string_bytes c.args.names.now) in
    let past : length (enumerate_from 0 named) ≤ c.loop-place.place =
    omega (arith, length-enumerate_from 0 named, length-zip c.args.entries.now (map string_bytes c.args.names.now), c.loop-place-test.false) in
    Prints-all (λ placed. picked_toxic_line (draws_of c.args.drawing.now) placed.0 placed.1.0 placed.1.1) _ _ past c.loop-place.invariant
