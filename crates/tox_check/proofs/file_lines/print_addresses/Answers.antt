-- One part, and then the other.
use Rattle.tox_check.specs.FileLines.{shared_lines}
use Rattle.tox_check.specs.ProxyLines.{proxies_lines}
use Rattle.tox_check.proofs.LinesThen.{PrintsLines-front, PrintsLines-stops, PrintsLines-then}
use Rattle.tox_check.proofs.file_lines.print_addresses.Goals as goal

pub returns-in_err-own : goal.returns-in_err-own
returns-in_err-own g c = PrintsLines-front (proxies_lines c.args.proxies.now) (shared_lines c.args.proxies.now) c.from_residual.ensures.1 c.in_err-own.ensures

pub returns-in_err-shared : goal.returns-in_err-shared
returns-in_err-shared g c = PrintsLines-stops (proxies_lines c.args.proxies.now) (shared_lines c.args.proxies.now) c.from_residual-in_err-shared.ensures.1 c.in_ok-own.ensures c.in_err-shared.ensures

pub returns : goal.returns
returns g c = PrintsLines-then (proxies_lines c.args.proxies.now) (shared_lines c.args.proxies.now) c.in_ok-own.ensures c.in_ok-shared.ensures c.saturating_add.ensures
