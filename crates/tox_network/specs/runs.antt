-- Runs of a network, and what holds of each.
pub mod EventualDelivery
pub mod Runs
pub mod RunLaws
pub mod Settling
