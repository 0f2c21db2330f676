-- The chains of a rule.
pub mod Toxic
pub mod NamedChain
pub mod NamedChainInside
pub mod Toxics
pub mod Chains
