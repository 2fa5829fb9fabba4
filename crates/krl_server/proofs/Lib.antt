mod Worked
pub mod Slots
pub mod Updates
pub mod Points
pub mod Turns
pub mod Tests
pub mod Grants
pub mod MostSlots
pub mod Cased
pub mod Crosses
pub mod Functions
pub mod Invariant
pub mod Outputs
mod Names
