-- One row behind the other.
use Rattle.std.proofs.Common.{◌≡◌, ◌≤◌, ◌+◌, ◌∙◌, arith, length, ltb}
use Rattle.std.specs.List.{enumerate_from}
use Rattle.std.proofs.lemmas.List.FromFn.{length-enumerate_from}
use Rattle.tox_text.proofs.Listed.{IsAt-enumerate}
use Rattle.tox_draw.proofs.pages.Shown.{Shows-none}
use Rattle.tox_draw.specs.pages.Pages.{placed_row}
use Rattle.tox_draw.specs.pages.Rows.{link_row}
use Rattle.tox_text.proofs.Printings.{Prints-all, Prints-more, Prints-none, Prints-stopped}
use Rattle.tox_draw.proofs.pages.page.print_links.Goals as goal

pub loop-place-init : goal.loop-place-init
loop-place-init g c = Prints-none c.requires

pub loop-place-preserved : goal.loop-place-preserved
loop-place-preserved g c =
    let turn = c.loop-place in
    let link = c.index-links-place.result in
    let here = IsAt-enumerate c.args.links.now turn.place link (record { below = c.loop-place-test.true; default = link; is = c.index-links-place.is }) in
    let same : c.as_str.result.now ≡ link_row link (turn.place + 1) (ltb turn.place c.args.shown) = c.as_str.ensures.value ∙ c.in_ok-set_row.ensures in
    Prints-more (placed_row c.args.shown) here turn.invariant (rw same at c.in_ok-print_text.ensures)

pub returns-in_err-set_row : goal.returns-in_err-set_row
returns-in_err-set_row g c =
    let turn = c.loop-place in
    let link = c.index-links-place.result in
    let here = IsAt-enumerate c.args.links.now turn.place link (record { below = c.loop-place-test.true; default = link; is = c.index-links-place.is }) in
    Prints-stopped (placed_row c.args.shown) here c.from_residual.ensures.1 turn.invariant
    (Shows-none turn.invariant.leaves.1)

pub returns-in_err-print_text : goal.returns-in_err-print_text
returns-in_err-print_text g c =
    let turn = c.loop-place in
    let link = c.index-links-place.result in
    let here = IsAt-enumerate c.args.links.now turn.place link (record { below = c.loop-place-test.true; default = link; is = c.index-links-place.is }) in
    let same : c.as_str.result.now ≡ link_row link (turn.place + 1) (ltb turn.place c.args.shown) = c.as_str.ensures.value ∙ c.in_ok-set_row.ensures in
    Prints-stopped (placed_row c.args.shown) here c.from_residual-in_err-print_text.ensures.1 turn.invariant
    (rw same at c.in_err-print_text.ensures)

pub returns : goal.returns
returns g c =
    let turn = c.loop-place in
    let past : length (enumerate_from 0 c.args.links.now) ≤ turn.place = omega (arith, length-enumerate_from 0 c.args.links.now, c.loop-place-test.false) in
    Prints-all (placed_row c.args.shown) _ _ past turn.invariant
