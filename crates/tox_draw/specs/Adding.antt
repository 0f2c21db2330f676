-- A text that grows.
use Rattle.std.specs.Prelude.{◌≡◌, ℕ, List, ◌++◌, string_bytes}
use Rattle.std.specs.declared.string.String.{String}
use Rattle.std.specs.declared.alloc.Global.{Global}

-- some bytes came behind a text
pub record AddsText (old new : String Global) (bytes : List ℕ) : Type 0 where
  pub added : string_bytes new ≡ string_bytes old ++ bytes
