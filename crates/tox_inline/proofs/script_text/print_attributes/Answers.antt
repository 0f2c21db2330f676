-- One line behind the other.
use Rattle.std.proofs.Common.{◌≤◌, arith, length, map}
use Rattle.std.specs.List.{zip}
use Rattle.std.proofs.lemmas.List.{length-map}
use Rattle.std.proofs.lemmas.Slice.Zip.{length-zip}
use Rattle.tox_inline.specs.Texts.{attribute_line}
use Rattle.tox_text.proofs.Listed.{IsAt-pair}
use Rattle.tox_text.proofs.Printings.{Prints-all, Prints-more, Prints-none, Prints-stopped}
use Rattle.tox_inline.proofs.script_text.print_attributes.Goals as goal

pub loop-place-init : goal.loop-place-init
loop-place-init g c = Prints-none c.requires.working

pub loop-place-preserved : goal.loop-place-preserved
loop-place-preserved g c =
    let here = IsAt-pair c.args.attributes.now c.args.values.now c.loop-place.place c.loop-place-test.true (omega arith) in
    Prints-more attribute_line here c.loop-place.invariant c.in_ok-print_attribute.ensures

pub returns-in_err-print_attribute : goal.returns-in_err-print_attribute
returns-in_err-print_attribute g c =
    let here = IsAt-pair c.args.attributes.now c.args.values.now c.loop-place.place c.loop-place-test.true (omega arith) in
    Prints-stopped attribute_line here c.from_residual.ensures.1 c.loop-place.invariant c.in_err-print_attribute.ensures

pub returns : goal.returns
returns g c =
    let keys = map (λ attribute. attribute.name.now) c.args.attributes.now in
    let past : length (zip keys c.args.values.now) ≤ c.loop-place.place =
    omega (arith, length-zip keys c.args.values.now, length-map c.args.attributes.now (λ attribute. attribute.name.now), c.loop-place-test.false) in
    Prints-all attribute_line _ _ past c.loop-place.invariant
