pub mod Toxics
pub mod Texts
pub mod Setup
