pub mod Meaning
pub mod Drawing
pub mod Compiled
pub mod Normal
pub mod NormalInside
pub mod PlanInside
