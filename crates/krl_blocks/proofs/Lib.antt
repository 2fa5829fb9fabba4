pub mod Places
pub mod Probes
pub mod Keys
pub mod Edits
pub mod Around
pub mod Thick
pub mod Laying
pub mod Kept
pub mod Readings
pub mod Apart
pub mod Shelving
pub mod Storing
pub mod Changing
mod Guesses
pub mod Crosses
pub mod Reserved
pub mod DetachedBoxes
pub mod Words
