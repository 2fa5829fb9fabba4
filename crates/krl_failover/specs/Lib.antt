pub mod Fenced
pub mod Steps
pub mod OldShows
pub mod Follows
pub mod OldServers
pub mod Worlds
