pub mod SoundnessLemmas
pub mod WaitingLemmas
pub mod SomeSteps
pub mod Runs
pub mod Interpreting
pub mod RandomLemmas
pub mod RandomReach
pub mod RestLemmas
