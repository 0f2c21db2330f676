-- What both ways of driving a link do at one moment.
pub mod Held
pub mod Arriving
