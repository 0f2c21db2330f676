-- What a document says for all of its rules: its version, and the lanes of its chains.
use Rattle.std.specs.Prelude.{ℕ, ◌==◌, codes, Option, Some, None, option_and_then, unwrap_or, Result, Ok, if◌then◌else◌}
use Rattle.toml.specs.Data.{Data, get}
use Rattle.tox_script.specs.fields.Fields.{optional, whole}
use Rattle.tox_script.specs.declared.fault.Field.{Field}
use Rattle.tox_script.specs.declared.fault.Field.TheVariants as field
use Rattle.tox_script.specs.declared.settings.Settings.{Settings}
use Rattle.tox_script.specs.declared.version.Version.{Version}
use Rattle.tox_script.specs.declared.version.Version.TheVariants.{One, Two}
use Rattle.tox_time.specs.Steps.{◌>>=◌}
use Rattle.tox_words.specs.declared.lanes.Lanes.{Lanes}
use Rattle.tox_words.specs.declared.lanes.Lanes.TheVariants.{Sixteen, ThirtyTwo}

-- the version of a number
abbrev pub version_numbered : ℕ → Option Version
version_numbered n = if n == 1 then Some One else if n == 2 then Some Two else None

-- the version that a value gives
abbrev pub version_in : Data → Option Version
version_in d = option_and_then version_numbered (whole d)

-- the version of a document: 1 if absent
abbrev pub version_of : Data → Result Version Field
version_of d = do
  version ← optional field.Version version_in (get (codes "version") d)
  Ok (unwrap_or version One)

-- the lanes of a number
abbrev pub lanes_numbered : ℕ → Option Lanes
lanes_numbered n = if n == 16 then Some Sixteen else if n == 32 then Some ThirtyTwo else None

-- the lanes that a value gives
abbrev pub lanes_in : Data → Option Lanes
lanes_in d = option_and_then lanes_numbered (whole d)

-- the lanes of a document of version 2: 32 if absent
abbrev pub written_lanes_of : Data → Result Lanes Field
written_lanes_of d = do
  lanes ← optional field.Lanes lanes_in (get (codes "lanes") d)
  Ok (unwrap_or lanes ThirtyTwo)

-- the lanes of a document's chains: 16 in version 1
abbrev pub lanes_of : Version → Data → Result Lanes Field
lanes_of One d = Ok Sixteen
lanes_of Two d = written_lanes_of d

-- the settings of a document, or the first that isn't as it must be
abbrev pub settings_of : Data → Result Settings Field
settings_of d = do
  version ← version_of d
  lanes ← lanes_of version d
  Ok (record { version = version; lanes = lanes })
