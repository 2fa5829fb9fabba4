pub mod Reaching
pub mod Functions
pub mod Refinement
pub mod Promises
pub mod Progress
pub mod Examples
mod Names
