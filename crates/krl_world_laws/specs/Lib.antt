pub mod Systems
pub mod Readers
pub mod Lockless
pub mod Leases
pub mod Shards
