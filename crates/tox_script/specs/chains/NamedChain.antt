-- Chains whose toxics have names.
use Rattle.std.specs.Prelude.{ℕ, List, [], ◌∷◌, ◌++◌}
use Rattle.tox_defs.specs.chain.Chain.{Toxics}
use Rattle.tox_defs.specs.declared.chain.Entry.{Entry}
use Rattle.tox_words.specs.declared.lanes.Lanes.{Lanes}

-- a chain, and the names of its toxics in their order
pub record NamedToxics : Type 0 where
  pub chain : Toxics
  pub names : List (List ℕ)

-- no toxic on so many lanes
abbrev pub nothing : Lanes → NamedToxics
nothing lanes = record { chain = record { lanes = lanes; entries = [] }; names = [] }

-- one more toxic behind the others
abbrev pub with_toxic : Entry → List ℕ → NamedToxics → NamedToxics
with_toxic entry name toxics = record {
  chain = record toxics.chain { entries = toxics.chain.entries ++ entry ∷ [] };
  names = toxics.names ++ name ∷ [];
}
