-- What a command line sets up.
use Rattle.std.specs.Prelude.{◌≡◌, List, Result, Ok, Err}
use Rattle.tox_config.specs.ConfigFaults.{IsConfigFault}
use Rattle.tox_config.specs.Populate.{populate}
use Rattle.tox_config.specs.Proxy.{Proxy}
use Rattle.tox_runs.specs.declared.files.toxics.ToxicsFault.{ToxicsFault}
use Rattle.tox_script.specs.Script.{script_of}
use Rattle.tox_script.specs.ScriptFaults.{IsScriptFault}
use Rattle.tox_inline.specs.Texts.{populate_text, script_text}
use Rattle.tox_inline.specs.Toxics.{numbered_toxics}
use Rattle.tox_inline.specs.declared.fault.InlineFault.{InlineFault}
use Rattle.tox_inline.specs.declared.fault.InlineFault.TheVariants.{Config, Toxics, Script, OutOfMemory}
use Rattle.tox_inline.specs.declared.setup.Inline.{Inline}
use Rattle.tox_inline.specs.declared.setup.InlineSetup.{InlineSetup}
use Rattle.tox_inline.specs.declared.toxics.NumberedToxic.{NumberedToxic}

-- the fault of toxics that were read, or out of memory
abbrev pub IsInlineFault : Result (List NumberedToxic) ToxicsFault → InlineFault → Type 0
IsInlineFault read (Toxics fault) = read ≡ Err fault
IsInlineFault read OutOfMemory = Unit {0}
IsInlineFault read (Config fault) = ⊥
IsInlineFault read (Script fault) = ⊥

-- the two files of a command line, and what they set up
pub record IsInlineSetup (inline : Inline) (made : InlineSetup) : Type 0 where
  pub addresses : made.populate.0 ≡ populate_text inline.listen.now inline.upstream.now
  pub populated : populate made.populate.0 ≡ Ok made.setup.proxies.items
  pub toxics : List NumberedToxic
  pub read : numbered_toxics inline.toxics.now ≡ Ok toxics
  pub rule : made.script.0 ≡ script_text toxics
  pub scripted : script_of made.script.0 ≡ Ok made.setup.script

-- the addresses are those of a proxy
pub record IsPopulated (inline : Inline) : Type 0 where
  pub proxies : List Proxy
  pub populated : populate (populate_text inline.listen.now inline.upstream.now) ≡ Ok proxies

-- why a command line sets nothing up: the addresses come before the toxics
abbrev pub HasInlineCause : Inline → InlineFault → Type 0
HasInlineCause inline (Config fault) =
    IsConfigFault (populate (populate_text inline.listen.now inline.upstream.now)) fault
HasInlineCause inline (Toxics fault) =
    IsPopulated inline × (numbered_toxics inline.toxics.now ≡ Err fault)
HasInlineCause inline (Script fault) =
    (toxics : List NumberedToxic) × (numbered_toxics inline.toxics.now ≡ Ok toxics)
    × IsScriptFault (script_of (script_text toxics)) fault
HasInlineCause inline OutOfMemory = Unit {0}
