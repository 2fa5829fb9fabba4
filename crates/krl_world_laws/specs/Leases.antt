pub mod Leased
pub mod Laws
pub mod Evictions
