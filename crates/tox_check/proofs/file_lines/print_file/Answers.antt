-- One part, and then the other.
use Rattle.std.proofs.Common.{◌++◌}
use Rattle.tox_check.specs.FileLines.{noted_lines, shared_lines}
use Rattle.tox_check.specs.ProxyLines.{proxies_lines}
use Rattle.tox_check.proofs.LinesThen.{PrintsLines-front, PrintsLines-stops, PrintsLines-then}
use Rattle.tox_check.proofs.file_lines.print_file.Goals as goal

pub returns-in_err-noted : goal.returns-in_err-noted
returns-in_err-noted g c = PrintsLines-front (noted_lines c.args.remarks.now) (proxies_lines c.args.proxies.now ++ shared_lines c.args.proxies.now) c.from_residual.ensures.1 c.in_err-noted.ensures

pub returns-in_err-others : goal.returns-in_err-others
returns-in_err-others g c = PrintsLines-stops (noted_lines c.args.remarks.now) (proxies_lines c.args.proxies.now ++ shared_lines c.args.proxies.now) c.from_residual-in_err-others.ensures.1 c.in_ok-noted.ensures c.in_err-others.ensures

pub returns : goal.returns
returns g c = PrintsLines-then (noted_lines c.args.remarks.now) (proxies_lines c.args.proxies.now ++ shared_lines c.args.proxies.now) c.in_ok-noted.ensures c.in_ok-others.ensures c.saturating_add.ensures
