pub mod Entries
pub mod Laid
pub mod Near
pub mod ReservedMaps
pub mod Runs
pub mod Shelves
