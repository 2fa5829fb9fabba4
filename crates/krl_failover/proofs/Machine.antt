mod Names
pub mod Basics
pub mod KeptCounts
pub mod KeptBounds
pub mod BoundRows
pub mod Pushes
pub mod Rebuilds
pub mod Invariant
pub mod StoreRuns
pub mod TakesOver
pub mod OldSessions
pub mod OldRows
pub mod OldPushes
pub mod OldRecovers
pub mod Reached
pub mod Witness
pub mod LateServer
