-- Operations.
pub mod During
pub mod Op
pub mod Look
pub mod OpCursor
