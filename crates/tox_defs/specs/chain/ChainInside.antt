-- What a contract sees of a `Chain`, and what its fields keep.
use Rattle.tox_defs.specs.declared.chain.Chain.TheInside.{Inside}
use Rattle.tox_defs.specs.chain.Chain.{Toxics, IsChain}

abbrev pub toxics : Inside → Toxics
toxics chain = record { lanes = chain.lanes; entries = chain.entries.items }

abbrev pub KeepsChain : Inside → Type 0
KeepsChain chain = IsChain (toxics chain)
