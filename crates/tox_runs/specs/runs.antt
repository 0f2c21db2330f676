-- Runs of an arrivals text.
pub mod Reading
pub mod SecondPass
pub mod RunnerSlices
pub mod OutcomeSlices
pub mod DryRun
pub mod StagesRun
