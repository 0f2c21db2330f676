-- One toxic at work.
pub mod Reaction
pub mod Stage
pub mod StageInside
