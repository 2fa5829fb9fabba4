pub mod Sound
pub mod Frames
pub mod Transactions
pub mod Loads
pub mod Agent
pub mod Worlds
pub mod Promised
pub mod Somewhere
