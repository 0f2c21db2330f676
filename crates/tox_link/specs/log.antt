-- The log of a link.
pub mod Events
pub mod Log
pub mod Carried
pub mod Logged
