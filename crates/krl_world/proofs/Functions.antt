-- What the contracts of the code's functions cite: each does a step of a world.
pub mod Due
pub mod Fresh
pub mod Places
pub mod Lifts
pub mod ClientPlaces
pub mod Commands
pub mod Server
pub mod Applies
pub mod ThreeMessages
pub mod Runs
pub mod Shapes
