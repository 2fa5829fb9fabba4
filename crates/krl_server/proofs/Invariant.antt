-- The laws `server_keeps` and `server_within`: what holds of each server between two steps.
pub mod RowsSound
pub mod AnswersSound
pub mod Placed
pub mod WritesSound
pub mod SeizesSound
pub mod Sounds
pub mod Kept
pub mod Within
pub mod Registered
pub mod WaitersAfter
pub mod Tabled
pub mod TableKept
pub mod TableWritten
