use Rattle.std.proofs.Common.{length}
use Rattle.tox_check.proofs.file_lines.+print_shared.Given as goal

abbrev pub decreases-print_shared : goal.decreases-print_shared
decreases-print_shared g l = length l.proxies.now
