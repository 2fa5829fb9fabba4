-- The laws `steps_end`, `server_says` and `changes_replay`: each step has one outcome, and what it sends and reports.
pub mod Ends
pub mod Counted
pub mod Numbers
pub mod Says
pub mod Replayed
