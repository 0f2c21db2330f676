-- A log that its direction and the writer of logs share.
use Rattle.std.specs.Prelude.{ℕ, List, string_bytes}
use Rattle.std.specs.Arc.{arc_value}
use Rattle.std.specs.declared.sync.Arc.{Arc}
use Rattle.std.specs.declared.alloc.Global.{Global}
use Rattle.tox_log.specs.declared.files.stream_log.StreamLog.{StreamLog}

-- the name of its file
abbrev pub file_of : Arc StreamLog Global → List ℕ
file_of log = string_bytes (arc_value log).name
