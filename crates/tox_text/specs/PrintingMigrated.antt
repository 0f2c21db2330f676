-- A migrated script that was printed, and what is left of one that was not.
use Rattle.std.specs.Prelude.{◌≡◌, ℕ, Bool, true, List, Option}
use Rattle.std.specs.Io.KnownBytes.{append_known}
use Rattle.tox_script.specs.Migrated.{IsMigrated, old_script_of}
use Rattle.tox_script.specs.ScriptFaults.{IsScriptFault}
use Rattle.tox_text.specs.Writing.{AppendsFront}
use Rattle.tox_text.specs.declared.migrated_text.PrintMigratedFault.{PrintMigratedFault}
use Rattle.tox_text.specs.declared.migrated_text.PrintMigratedFault.TheVariants.{Script, WriteFault}

-- a text that the script is migrated to was written
pub record WritesMigrated (script : List ℕ) (old new : Option (List ℕ)) : Type 0 where
  pub text : List ℕ
  pub migrated : IsMigrated script text
  pub written : new ≡ append_known old text

-- a prefix of a text that the script is migrated to was written
pub record WritesMigratedFront (script : List ℕ) (old new : Option (List ℕ)) : Type 0 where
  pub text : List ℕ
  pub migrated : IsMigrated script text
  pub written : AppendsFront old new text

-- the script is refused and nothing was written, or the writer has failed and a prefix of the text was written
abbrev pub LeavesMigrated : List ℕ → Option (List ℕ) → Option (List ℕ) → Bool → PrintMigratedFault
    → Type 0
LeavesMigrated script old new failed (Script fault) =
    (new ≡ old) × (IsScriptFault (old_script_of script) fault)
LeavesMigrated script old new failed WriteFault =
    WritesMigratedFront script old new × (failed ≡ true)
