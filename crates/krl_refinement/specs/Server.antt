-- The server, and whatever it does, as steps of the machine.
pub mod AsLinks
pub mod Simulation
