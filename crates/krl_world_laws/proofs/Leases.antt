pub mod Leased
pub mod Evicting
