-- Scripts of version 1 as scripts of version 2.
use Rattle.std.specs.Prelude.{◌≡◌, ℕ, pos, List, codes, unwrap_or, Result, Ok, Err}
use Rattle.toml.specs.Data.{Data, integer, array, no_items, Members, no_members, member, get}
use Rattle.tox_script.specs.Covering.{toxics_for}
use Rattle.tox_script.specs.Rule.{Rules}
use Rattle.tox_script.specs.Script.{script_of}
use Rattle.tox_script.specs.declared.fault.ScriptFault.{ScriptFault}
use Rattle.tox_script.specs.declared.fault.ScriptFault.TheVariants.{AlreadyVersion2}
use Rattle.tox_script.specs.declared.version.Version.{Version}
use Rattle.tox_script.specs.declared.version.Version.TheVariants.{One, Two}
use Rattle.tox_time.specs.Steps.{◌>>=◌}
use Rattle.tox_time.specs.declared.streams.stream.Stream.{Stream}

-- a script of a version, which must be 1
abbrev pub in_version_1 : Version → Rules → Result Rules ScriptFault
in_version_1 One script = Ok script
in_version_1 Two script = Err AlreadyVersion2

-- the script of some bytes of version 1, or the first fault
abbrev pub old_script_of : List ℕ → Result Rules ScriptFault
old_script_of bytes = do
  script ← script_of bytes
  in_version_1 script.settings.version script

-- a text of version 2 gives each connection of each proxy the chains and names of one of version 1
pub record IsMigrated (old migrated : List ℕ) : Type 0 where
  pub before : Rules
  pub after : Rules
  pub read_before : old_script_of old ≡ Ok before
  pub read_after : script_of migrated ≡ Ok after
  pub version : after.settings.version ≡ Two
  pub same : (proxy : List ℕ) (conn : ℕ) (stream : Stream)
      → toxics_for proxy conn stream after ≡ toxics_for proxy conn stream before

-- the rules of a document, where an absent key has none
abbrev pub rules_in : Data → Data
rules_in d = unwrap_or (get (codes "rule") d) (array no_items)

-- a document of version 2 with 16 lanes and these rules
abbrev pub version_2 : Data → Members
version_2 rules =
    member (codes "lanes") (integer (pos 16))
    (member (codes "rule") rules (member (codes "version") (integer (pos 2)) no_members))
