pub mod Time
pub mod streams
pub mod Ends
pub mod MemoryEnds
pub mod Steps
pub mod Text
