pub mod ReportLemmas
pub mod ServeLemmas
pub mod JsonParts
