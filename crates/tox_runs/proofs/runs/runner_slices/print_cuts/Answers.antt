-- One line more, or a prefix of it.
use Rattle.std.proofs.Common.{◌∙◌, refl}
use Rattle.tox_runs.proofs.CutLemmas.{IsOffered-same, text_to_come-cut}
use Rattle.tox_runs.proofs.Passing.{PrintsDownTo-broken, PrintsDownTo-none, PrintsDownTo-then}
use Rattle.tox_runs.proofs.PieceLines.{line_of_lent}
use Rattle.tox_runs.proofs.runs.runner_slices.print_cuts.Goals as goal

pub loop-slice-preserved : goal.loop-slice-preserved
loop-slice-preserved g c =
    let on = c.loop-slice.invariant in
    let next = c.in-Some.ensures in
    let slice = c.in-Some.slice in
    let offered = IsOffered-same c.args.runner.now c.loop-slice.runner c.args.piece.now on.piece c.requires.offered in
    let line = line_of_lent c.args.piece.now slice c.lend.result c.lend.ensures in
    record {
      working = c.in_ok-print_lent.ensures.leaves.1;
      piece = next.kept.piece ∙ on.piece;
      latest = next.kept.latest ∙ on.latest;
      printed = λ arrived items of.
          PrintsDownTo-then _ (on.printed arrived items of)
          (text_to_come-cut arrived c.args.piece.now c.loop-slice.runner c.next_cut.new.self slice items of offered next.kept.piece next.some.cut
          next.some.begins next.some.stands next.some.ends)
          (rw line at c.in_ok-print_lent.ensures);
    }

pub returns-in_err-print_lent-clause-prints : goal.returns-in_err-print_lent-clause-prints
returns-in_err-print_lent-clause-prints g c =
    let on = c.loop-slice.invariant in
    let next = c.in-Some.ensures in
    let slice = c.in-Some.slice in
    let offered = IsOffered-same c.args.runner.now c.loop-slice.runner c.args.piece.now on.piece c.requires.offered in
    let line = line_of_lent c.args.piece.now slice c.lend.result c.lend.ensures in
    λ arrived items of.
    PrintsDownTo-broken _ c.from_residual.ensures.1 (on.printed arrived items of)
    (text_to_come-cut arrived c.args.piece.now c.loop-slice.runner c.next_cut.new.self slice items of offered next.kept.piece next.some.cut next.some.begins
    next.some.stands next.some.ends)
    (rw line at c.in_err-print_lent.ensures)

pub loop-slice-init : goal.loop-slice-init
loop-slice-init g c = record {
  working = c.requires.working;
  piece = refl;
  latest = refl;
  printed = λ arrived items of. PrintsDownTo-none c.requires.working;
}
