pub mod Lengths
pub mod Clients
pub mod Servers
pub mod Clocks
pub mod Machine
pub mod Laws
