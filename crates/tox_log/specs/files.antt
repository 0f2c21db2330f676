pub mod EntryText
pub mod FileName
pub mod LogSteps
pub mod LogOf
pub mod SharedLog
pub mod WholeLines
