-- The book of a proxy's links.
pub mod Links
pub mod BookInside
