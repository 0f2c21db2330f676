-- Each call has one file fewer to look at.
use Rattle.std.proofs.Common.{length}
use Rattle.tox_runs.proofs.files.named_files.+file_named.Given as goal

abbrev pub decreases-file_named : goal.decreases-file_named
decreases-file_named l = length l.files.now
