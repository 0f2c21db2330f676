pub mod LaneCounts
pub mod FirstDraws
mod Turns
mod Outputs
mod Texts
