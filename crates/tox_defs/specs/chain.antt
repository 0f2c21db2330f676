-- Chains of toxics.
pub mod Chain
pub mod ChainInside
pub mod Applied
