-- What holds of every table (`krl_table/specs/Sound`, `Kept`), after one row is set.
pub mod Sounds
pub mod Alone
pub mod Stands
pub mod Compatible
pub mod Rooms
pub mod Within
