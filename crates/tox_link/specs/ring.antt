-- The ring of the reader's thread.
pub mod Messages
