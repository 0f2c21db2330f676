-- What a refused populate file tells.
use Rattle.std.specs.Prelude.{◌≡◌, ◌≢◌, Result, Err}
use Rattle.tox_config.specs.declared.fault.ConfigFault.{ConfigFault}
use Rattle.tox_config.specs.declared.fault.ConfigFault.TheVariants.{OutOfMemory}

-- the fault that this answer has, or out of memory in its place
abbrev pub IsConfigFault : {A : Type 0} → Result A ConfigFault → ConfigFault → Type 0
IsConfigFault answer fault = fault ≢ OutOfMemory → answer ≡ Err fault
