-- One served link.
pub mod LinkEnds
pub mod Courses
