-- Files, and what they say.
pub mod Toxics
pub mod Files
pub mod Setup
pub mod Picking
