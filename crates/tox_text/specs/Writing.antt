-- What a writer got.
use Rattle.std.specs.Prelude.{◌≡◌, ℕ, ◌++◌, Bool, true, false, List, Option, Result, Ok, Err}
use Rattle.std.specs.Io.KnownBytes.{append_known}

-- a prefix of these bytes was written
pub record AppendsFront (old new : Option (List ℕ)) (bytes : List ℕ) : Type 0 where
  pub sent : List ℕ
  pub unsent : List ℕ
  pub whole : sent ++ unsent ≡ bytes
  pub written : new ≡ append_known old sent

-- bytes were written: all of them, or the writer has failed and a prefix of them is written
abbrev pub Writes : {E : Type 0} → Result (Unit {0}) E → Option (List ℕ) → Option (List ℕ) → Bool
    → List ℕ → Type 0
Writes (Ok done) old new failed bytes = (new ≡ append_known old bytes) × (failed ≡ false)
Writes (Err fault) old new failed bytes = AppendsFront old new bytes × (failed ≡ true)
