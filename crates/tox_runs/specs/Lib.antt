pub mod runs
pub mod files
