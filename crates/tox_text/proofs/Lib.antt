pub mod Digits
pub mod HexParts
pub mod HexPairs
pub mod LineTurns
pub mod Listed
pub mod PickParts
pub mod Printings
pub mod Runs
pub mod ShortParts
pub mod Writes
pub mod CountLemmas
pub mod FirstLines
pub mod PieceRuns
mod VisibleLetters
