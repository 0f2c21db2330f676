-- The piece is printed as it came.
use Rattle.tox_runs.proofs.Passing.{PrintsDownTo-failed, PrintsDownTo-passed}
use Rattle.tox_runs.proofs.runs.second_pass.print_data.Goals as goal

pub returns-in_err-print_piece-clause-prints : goal.returns-in_err-print_piece-clause-prints
returns-in_err-print_piece-clause-prints g c = λ at. PrintsDownTo-failed c.from_residual.ensures.1 (c.in_err-print_piece.ensures.prints at)

pub returns-clause-prints : goal.returns-clause-prints
returns-clause-prints g c = λ at. PrintsDownTo-passed (c.in_ok-print_piece.ensures.prints at)
