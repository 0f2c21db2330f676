-- The parts of the line.
use Rattle.std.proofs.Common.{List, ℕ, ◌++◌, codes, decimal, ap, append-nil}
use Rattle.tox_text.proofs.Printings.{Prints-as}
use Rattle.tox_log.proofs.judged_text.print_writes.Goals as goal

pub returns : goal.returns
returns g c = Prints-as (ap (λ (digits : List ℕ). codes " writes " ++ digits) (append-nil (decimal c.args.writes))) c.print.ensures
