pub mod Slots
pub mod Maps
pub mod Rows
pub mod Edits
pub mod Cuts
pub mod Runs
pub mod Kept
pub mod InitialEntries
pub mod Judged
pub mod SlotLaws
pub mod Registered
pub mod Again
pub mod Crosses
mod Names
