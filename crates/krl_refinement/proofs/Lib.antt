pub mod Messages
pub mod Client
pub mod Server
mod Names
