-- What files set up: the proxies of a populate file, and the script of a script file.
use Rattle.std.specs.Prelude.{◌≡◌, ℕ, ◌<◌, ◌⊎◌, IsTrue, List, length, Ok}
use Rattle.std.specs.Str.{is_utf8}
use Rattle.tox_config.specs.ConfigFaults.{IsConfigFault}
use Rattle.tox_config.specs.Populate.{populate}
use Rattle.tox_config.specs.Proxy.{Proxy}
use Rattle.tox_config.specs.Remarks.{IsNoted, Noted}
use Rattle.tox_config.specs.declared.fault.ConfigFault.{ConfigFault}
use Rattle.tox_config.specs.declared.fault.ConfigFault.TheVariants as config
use Rattle.tox_script.specs.Rule.{Rules}
use Rattle.tox_script.specs.Script.{script_of}
use Rattle.tox_script.specs.ScriptFaults.{IsScriptFault}
use Rattle.tox_script.specs.declared.fault.ScriptFault.{ScriptFault}
use Rattle.tox_script.specs.declared.fault.ScriptFault.TheVariants as script
use Rattle.tox_runs.specs.files.Files.{KnownFile, IsFileFault, IsFileOf}
use Rattle.tox_runs.specs.declared.files.setup.SetupFault.{SetupFault}
use Rattle.tox_runs.specs.declared.files.setup.SetupFault.TheVariants.{ConfigFile, Config, ScriptFile, Script}

-- the file was read and defines these proxies
pub record Populates (file : KnownFile) (proxies : List Proxy) : Type 0 where
  pub bytes : List ℕ
  pub read : IsFileOf file bytes
  pub populated : populate bytes ≡ Ok proxies

-- the file was read, and this is noted of it, which defines these proxies
pub record Notes (file : KnownFile) (proxies : List Proxy) (noted : Noted) : Type 0 where
  pub bytes : List ℕ
  pub read : IsFileOf file bytes
  pub noted_of : IsNoted bytes proxies noted

-- the file was read and is this script
pub record Scripts (file : KnownFile) (rules : Rules) : Type 0 where
  pub bytes : List ℕ
  pub read : IsFileOf file bytes
  pub scripted : script_of bytes ≡ Ok rules

-- both files were read
pub record IsSetUp (config script : KnownFile) (proxies : List Proxy) (rules : Rules) : Type 0 where
  pub populates : Populates config proxies
  pub scripts : Scripts script rules

-- the populate file was read
pub record HasPopulated (file : KnownFile) : Type 0 where
  pub proxies : List Proxy
  pub populates : Populates file proxies

-- the file was read, and this is its first fault as a populate file, unless it is text and out of memory came first
pub record RefusesConfig (file : KnownFile) (fault : ConfigFault) : Type 0 where
  pub bytes : List ℕ
  pub read : IsFileOf file bytes
  pub refused : IsConfigFault (populate bytes) fault
  pub memory : fault ≡ config.OutOfMemory → IsTrue (is_utf8 bytes) × (0 < length bytes)

-- the file was read, and this is its first fault as a script, unless it is text and out of memory came first
pub record RefusesScript (file : KnownFile) (fault : ScriptFault) : Type 0 where
  pub bytes : List ℕ
  pub read : IsFileOf file bytes
  pub refused : IsScriptFault (script_of bytes) fault
  pub memory : fault ≡ script.OutOfMemory → IsTrue (is_utf8 bytes)

-- why the file of a name defines no proxies
abbrev pub HasConfigCause : KnownFile → List ℕ → SetupFault → Type 0
HasConfigCause file name (ConfigFile fault) = IsFileFault file name fault
HasConfigCause file name (Config fault) = RefusesConfig file fault
HasConfigCause file name (ScriptFile fault) = ⊥
HasConfigCause file name (Script fault) = ⊥

-- why the file of a name is no script
abbrev pub HasScriptCause : KnownFile → List ℕ → SetupFault → Type 0
HasScriptCause file name (ConfigFile fault) = ⊥
HasScriptCause file name (Config fault) = ⊥
HasScriptCause file name (ScriptFile fault) = IsFileFault file name fault
HasScriptCause file name (Script fault) = RefusesScript file fault

-- why files of these names set up nothing: the populate file comes first
abbrev pub HasSetupCause : (List ℕ → KnownFile) → List ℕ → List ℕ → SetupFault → Type 0
HasSetupCause known config_name script_name fault =
    HasConfigCause (known config_name) config_name fault
    ⊎ (HasPopulated (known config_name) × HasScriptCause (known script_name) script_name fault)
