pub mod Crosses
pub mod Rows
pub mod Invariant
pub mod Calls
pub mod ReportRows
mod Names
