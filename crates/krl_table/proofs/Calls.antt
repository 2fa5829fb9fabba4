-- What each call makes of the rows (`krl_table/specs/Calls`, `Grants`, `Replies`).
pub mod Fronts
pub mod Clears
pub mod Splits
pub mod Merges
pub mod Reaches
pub mod Raises
pub mod Answering
pub mod AtOnce
