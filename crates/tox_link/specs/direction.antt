pub mod Follows
pub mod Driven
