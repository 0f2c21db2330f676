pub mod NumbersFrom
pub mod FirstFlags
pub mod TallySteps
pub mod LinkTexts
pub mod FlagTurns
pub mod TotalParts
pub mod ObjectFields
