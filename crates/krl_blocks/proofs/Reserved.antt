-- A map whose memory is taken once.
pub mod Finding
pub mod Keeping
pub mod Crosses
