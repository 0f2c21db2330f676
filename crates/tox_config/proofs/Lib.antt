pub mod Distinct
pub mod LastColon
pub mod Limits
pub mod Names
pub mod Ports
pub mod Puts
pub mod Texts
pub mod Turns
