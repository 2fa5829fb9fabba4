pub mod Hosts
pub mod Promises
pub mod Batches
pub mod Evictions
