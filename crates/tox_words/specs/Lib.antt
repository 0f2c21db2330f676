pub mod Draw
pub mod Table
pub mod WordTable
pub mod WordsText
pub mod Seeded
