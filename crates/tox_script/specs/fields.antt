-- The fields of a script's tables.
pub mod Fields
pub mod Document
pub mod Toxicity
pub mod ToxicFields
pub mod Attributes
