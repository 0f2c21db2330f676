pub mod Places
pub mod Working
pub mod Joined
pub mod Within
pub mod Rested
