-- What a refused document tells.
use Rattle.std.specs.Prelude.{◌≡◌, ◌≢◌, Result, Err}
use Rattle.tox_script.specs.declared.fault.ScriptFault.{ScriptFault}
use Rattle.tox_script.specs.declared.fault.ScriptFault.TheVariants.{OutOfMemory}

-- the fault that this answer has, or out of memory in its place
abbrev pub IsScriptFault : {A : Type 0} → Result A ScriptFault → ScriptFault → Type 0
IsScriptFault answer fault = fault ≢ OutOfMemory → answer ≡ Err fault
