-- What a contract sees of a `NamedChain`, and what its fields keep.
use Rattle.std.specs.Prelude.{◌≡◌, length, map, string_bytes}
use Rattle.tox_script.specs.chains.NamedChain.{NamedToxics}
use Rattle.tox_script.specs.declared.chains.named_chain.NamedChain.TheInside.{Inside}

-- the chain with its names
abbrev pub named_toxics : Inside → NamedToxics
named_toxics toxics = record { chain = toxics.chain; names = map string_bytes toxics.names.items }

-- each toxic has a name
abbrev pub IsMatched : Inside → Type 0
IsMatched toxics = length toxics.names.items ≡ length toxics.chain.entries
