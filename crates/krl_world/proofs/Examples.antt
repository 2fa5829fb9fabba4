-- The laws `scans_somewhere`, `scans_while_down`, `writes_somewhere` and `comes_through_somewhere`: some runs, step by
-- step.
pub mod Worked
pub mod Running
pub mod DownRun
pub mod InsertAtServer
pub mod InsertRun
pub mod Acting
pub mod CallbackRun
pub mod RestartRun
pub mod Pieced
