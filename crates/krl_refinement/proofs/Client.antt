-- The laws of a client: each of its steps is some steps of its link.
pub mod Basics
pub mod Steps
pub mod Repeats
pub mod Receives
pub mod Simulation
