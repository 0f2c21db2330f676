-- The core of a live link.
pub mod Acts
pub mod Core
pub mod NewCore
pub mod CoreKept
pub mod CoreInside
pub mod Plain
pub mod PlainInside
pub mod DirectionInside
