pub mod HeadParts
pub mod TypedToxics
