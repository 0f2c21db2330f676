-- What travels over a link.
pub mod Stream
pub mod StreamPosition
pub mod Table
pub mod Neighbours
pub mod Arrivals
pub mod ArrivalsInside
pub mod StreamName
