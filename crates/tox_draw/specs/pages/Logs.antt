-- What is known of logs by their names.
use Rattle.std.specs.Prelude.{◌≡◌, ℕ, List, Option, Some, None}

-- what is known of a log: nothing, or whether it can be opened, and then its bytes
abbrev pub KnownLog : Type 0
KnownLog = Option (Option (List ℕ))

-- a reader of a log gives its bytes, where they are known. A log that can't be opened has no reader
abbrev pub OpensLog : KnownLog → Option (List ℕ) → Type 0
OpensLog None given = Unit {0}
OpensLog (Some None) given = ⊥
OpensLog (Some (Some bytes)) given = given ≡ Some bytes

-- a log may be missing: it isn't known that it can be opened
abbrev pub MayLack : KnownLog → Type 0
MayLack None = Unit {0}
MayLack (Some None) = Unit {0}
MayLack (Some (Some bytes)) = ⊥
