pub mod Openings
pub mod Shown
pub mod Taken
pub mod Promised
pub mod Witness
