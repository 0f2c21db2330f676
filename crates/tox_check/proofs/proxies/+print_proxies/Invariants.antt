use Rattle.std.proofs.Common.{length}
use Rattle.tox_check.proofs.proxies.+print_proxies.Given as goal

abbrev pub decreases-print_proxies : goal.decreases-print_proxies
decreases-print_proxies g l = length l.proxies.now
