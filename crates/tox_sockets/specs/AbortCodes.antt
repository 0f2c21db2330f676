-- The codes of why a link is aborted.
use Rattle.std.specs.Prelude.{ℕ}
use Rattle.tox_sockets.specs.declared.abort_cause.AbortCause.{AbortCause}
use Rattle.tox_sockets.specs.declared.abort_cause.AbortCause.TheVariants.{Stopped, Memory, Thread}

-- 0 stands for a link that isn't aborted
abbrev pub abort_code : AbortCause → ℕ
abort_code Stopped = 1
abort_code Memory = 2
abort_code Thread = 3
