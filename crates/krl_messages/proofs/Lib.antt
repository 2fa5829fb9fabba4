mod Ascents
pub mod Paddings
pub mod Crosses
pub mod Members
