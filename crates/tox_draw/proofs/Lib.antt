mod AxisSteps
mod Firsts
pub mod Growing
mod LineCounts
mod DrawnTexts
mod Planned
mod HeardEvents
mod HeardLines
