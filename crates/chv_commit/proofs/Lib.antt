pub mod CommitLemmas
pub mod ReplayLemmas
pub mod RunLemmas
pub mod ShortLemmas
pub mod SoundLemmas
pub mod TakenLemmas
