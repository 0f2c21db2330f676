-- One part, and then the other.
use Rattle.std.proofs.Common.{flat_map}
use Rattle.tox_check.specs.FileLines.{repeated_lines, toxiproxys_lines}
use Rattle.tox_check.proofs.LinesThen.{PrintsLines-front, PrintsLines-stops, PrintsLines-then}
use Rattle.tox_check.proofs.file_lines.print_others.Goals as goal

pub returns-in_err-hint : goal.returns-in_err-hint
returns-in_err-hint g c = PrintsLines-front (toxiproxys_lines c.args.unread.now) (flat_map repeated_lines c.args.repeated.now) c.from_residual.ensures.1 c.in_err-hint.ensures

pub returns-in_err-others : goal.returns-in_err-others
returns-in_err-others g c = PrintsLines-stops (toxiproxys_lines c.args.unread.now) (flat_map repeated_lines c.args.repeated.now) c.from_residual-in_err-others.ensures.1 c.in_ok-hint.ensures c.in_err-others.ensures

pub returns : goal.returns
returns g c = PrintsLines-then (toxiproxys_lines c.args.unread.now) (flat_map repeated_lines c.args.repeated.now) c.in_ok-hint.ensures c.in_ok-others.ensures c.saturating_add.ensures
