pub mod Bound
pub mod Streams
pub mod Shutting
pub mod ResetDue
pub mod AbortCodes
