pub mod FileNames
pub mod Lines
pub mod OneFile
pub mod Printed
pub mod Steps
