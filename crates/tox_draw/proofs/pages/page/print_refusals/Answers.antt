-- One row behind the other.
use Rattle.std.proofs.Common.{◌≡◌, ◌≤◌, ◌∙◌, arith, length}
use Rattle.tox_text.proofs.Listed.{IsAt}
use Rattle.tox_draw.proofs.pages.Shown.{Shows-none}
use Rattle.tox_draw.specs.pages.Rows.{refusal_row}
use Rattle.tox_text.proofs.Printings.{Prints-all, Prints-more, Prints-none, Prints-stopped}
use Rattle.tox_draw.proofs.pages.page.print_refusals.Goals as goal

pub loop-refusal-init : goal.loop-refusal-init
loop-refusal-init g c = Prints-none c.requires

pub loop-refusal-preserved : goal.loop-refusal-preserved
loop-refusal-preserved g c =
    let turn = c.loop-refusal in
    let refusal = c.refusal-item.result in
    let here : IsAt c.args.refusals.now turn.refusal-index refusal = record { below = c.loop-refusal-test.true; default = refusal; is = c.refusal-item.is } in
    let same : c.as_str.result.now ≡ refusal_row refusal = c.as_str.ensures.value ∙ c.in_ok-set_refusal.ensures in
    Prints-more refusal_row here turn.invariant (rw same at c.in_ok-print_text.ensures)

pub returns-in_err-set_refusal : goal.returns-in_err-set_refusal
returns-in_err-set_refusal g c =
    let turn = c.loop-refusal in
    let refusal = c.refusal-item.result in
    let here : IsAt c.args.refusals.now turn.refusal-index refusal = record { below = c.loop-refusal-test.true; default = refusal; is = c.refusal-item.is } in
    Prints-stopped refusal_row here c.from_residual.ensures.1 turn.invariant
    (Shows-none turn.invariant.leaves.1)

pub returns-in_err-print_text : goal.returns-in_err-print_text
returns-in_err-print_text g c =
    let turn = c.loop-refusal in
    let refusal = c.refusal-item.result in
    let here : IsAt c.args.refusals.now turn.refusal-index refusal = record { below = c.loop-refusal-test.true; default = refusal; is = c.refusal-item.is } in
    let same : c.as_str.result.now ≡ refusal_row refusal = c.as_str.ensures.value ∙ c.in_ok-set_refusal.ensures in
    Prints-stopped refusal_row here c.from_residual-in_err-print_text.ensures.1 turn.invariant
    (rw same at c.in_err-print_text.ensures)

pub returns : goal.returns
returns g c =
    let turn = c.loop-refusal in
    let past : length c.args.refusals.now ≤ turn.refusal-index = omega (arith, c.loop-refusal-test.false) in
    Prints-all refusal_row _ _ past turn.invariant
