-- Each step of a world is some steps of the machine.
pub mod Mirrors
pub mod Growing
pub mod Calling
pub mod Serves
pub mod ServerMoves
pub mod Taken
pub mod Reached
pub mod MachineOpens
pub mod Openings
pub mod Standing
