-- Carrying one direction.
pub mod Side
pub mod Results
pub mod Steps
