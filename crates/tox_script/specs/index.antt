-- The index of a proxy's rules.
pub mod Steps
pub mod Overlay
pub mod Numbered
