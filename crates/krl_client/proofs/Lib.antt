mod Pinned
mod Cases
mod Tests
pub mod Always
pub mod Keeping
pub mod Crosses
