-- The law `can_go_on`: each step that is not refused can be taken.
pub mod CanGoOn
pub mod Described
