mod Names
pub mod Epochs
pub mod Beside
pub mod Ahead
pub mod Stores
pub mod Starts
pub mod Departed
pub mod Follows
pub mod OldMoves
pub mod OldPushes
pub mod OldRows
pub mod OldTable
pub mod OldTurns
pub mod OldGathers
pub mod OldSteps
pub mod OldServers
