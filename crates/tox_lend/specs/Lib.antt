pub mod Run
pub mod Lent
pub mod Window
pub mod WindowInside
