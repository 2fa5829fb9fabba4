pub mod Lengths
pub mod Sound
pub mod Client
pub mod Ends
pub mod Server
pub mod Restarts
pub mod Evicted
pub mod Somewhere
