-- Why a file was not read, and what is known of files by their names.
use Rattle.std.specs.Prelude.{◌≡◌, ℕ, ◌<◌, ◌≤◌, Bool, true, List, [], ◌∷◌, length, Option, None, Some, IfSome, if◌then◌else◌}
use Rattle.std.specs.Borrow.{Bor}
use Rattle.std.specs.Str.{bytes_eq}
use Rattle.tox_runs.specs.runs.Reading.{IsTooLong}
use Rattle.tox_runs.specs.declared.files.FileFault.{FileFault}
use Rattle.tox_runs.specs.declared.files.FileFault.TheVariants.{OutOfMemory, Unreadable, TooLong}

-- what is known of a file: nothing, or whether it can be read, and then its bytes
abbrev pub KnownFile : Type 0
KnownFile = Option (Option (List ℕ))

-- these are the bytes of a file, of which there are not too many
pub record IsFileOf (known : KnownFile) (bytes : List ℕ) : Type 0 where
  pub same : IfSome known (λ file. file ≡ Some bytes)
  pub short : length bytes ≤ 16777216

-- the file can't be read
abbrev pub IsUnreadable : KnownFile → Type 0
IsUnreadable known = IfSome known (λ file. file ≡ None)

-- the file has too many bytes
abbrev pub IsLong : KnownFile → Type 0
IsLong known =
    IfSome known (λ file. (bytes : List ℕ) × (file ≡ Some bytes) × (16777216 < length bytes))

-- why a file was not read: a fault has the file's name, unless out of memory
abbrev pub IsFileFault : KnownFile → List ℕ → FileFault → Type 0
IsFileFault known name OutOfMemory = Unit {0}
IsFileFault known name (Unreadable reported) = (reported.now ≡ name) × IsUnreadable known
IsFileFault known name (TooLong reported) = (reported.now ≡ name) × IsLong known

-- why the rest of a file was not read
abbrev pub HasFileCause : List ℕ → Option (List ℕ) → Option (List ℕ) → Bool → FileFault → Type 0
HasFileCause name before after failed OutOfMemory = Unit {0}
HasFileCause name before after failed (Unreadable reported) = (reported.now ≡ name) × (failed ≡ true)
HasFileCause name before after failed (TooLong reported) = (reported.now ≡ name) × IsTooLong before after

-- the bytes of the first file of a name
abbrev pub file_named : List ℕ → List (Bor (List ℕ) × Bor (List ℕ)) → Option (List ℕ)
file_named name [] = None
file_named name (file ∷ files) =
    if bytes_eq file.0.now name then Some file.1.now else file_named name files
