pub mod Limits
pub mod Words
pub mod Printing
pub mod Transfers
