-- The lines of serving.
pub mod ServeLines
pub mod JsonLines
pub mod OpenLine
pub mod LineQueue
pub mod LineQueueInside
pub mod LineText
