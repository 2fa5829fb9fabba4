-- Kept rows, and what they stand for: the slots, the extents' rows, the waiters and the holders.
pub mod RowChanges
pub mod Below
pub mod NewSlotModes
pub mod NewSlotParts
pub mod Slots
pub mod Walk
pub mod Nothing
pub mod NextWaiting
pub mod Waiters
pub mod Counted
pub mod Holds
