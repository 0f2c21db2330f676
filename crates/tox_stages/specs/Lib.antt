pub mod Passing
pub mod Collecting
pub mod Workers
pub mod AtRest
