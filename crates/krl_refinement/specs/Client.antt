-- A client, and whatever it does, as steps of its link.
pub mod Shows
pub mod Simulation
