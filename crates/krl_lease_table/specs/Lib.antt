pub mod Standings
pub mod Rows
pub mod Tables
pub mod Flat
pub mod Systems
pub mod Replaced
pub mod Laws
