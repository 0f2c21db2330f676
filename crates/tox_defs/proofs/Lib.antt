pub mod FlowLemmas
pub mod Drawn
pub mod Cutting
pub mod Uncut
pub mod NoAttribute
pub mod OpCursors
pub mod Windows
pub mod Stages
pub mod OpenStates
pub mod KeepingStreams
pub mod StreamKeepers
pub mod PassedBytes
pub mod InRange
pub mod Within
pub mod Spelled
pub mod Finals
pub mod ToxicFacts
pub mod OpFacts
pub mod ToxicProofs
pub mod ToxicStreams
pub mod ChainStreams
pub mod Places
pub mod OpStreams
mod Cuts
mod Decimals
pub mod Mapped
mod ReadsBack
mod Gathered
