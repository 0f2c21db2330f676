-- One proxy at work.
pub mod Accepting
pub mod Filling
pub mod LinkBook
