-- The arrivals text.
pub mod Line
pub mod ArrivalsText
pub mod Lines
pub mod Checked
pub mod Counting
