pub mod StreamLemmas
pub mod ArrivalsKept
pub mod Numbers
pub mod Steps
