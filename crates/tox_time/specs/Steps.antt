-- Steps that may fail, one behind another.
use Rattle.std.specs.Prelude.{Result, Ok, Err}

-- the ? of a result
infixl 10 ◌>>=◌
abbrev pub ◌>>=◌ : {A B E : Type 0} → Result A E → (A → Result B E) → Result B E
Ok x >>= f = f x
Err e >>= f = Err e

-- an error in other words
abbrev pub map_err : {A E F : Type 0} → (E → F) → Result A E → Result A F
map_err words (Ok x) = Ok x
map_err words (Err e) = Err (words e)
