pub mod DirectionLemmas
pub mod MakingLemmas
pub mod ReadyLemmas
pub mod SettledLemmas
pub mod TimerLemmas
