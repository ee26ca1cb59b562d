pub mod Commits
pub mod Replays
