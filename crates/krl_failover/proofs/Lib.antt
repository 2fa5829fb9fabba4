pub mod Machine
pub mod Refinement
pub mod Worlds
