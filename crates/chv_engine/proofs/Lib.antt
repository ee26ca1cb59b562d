pub mod EndLemmas
pub mod GuaranteeLemmas
pub mod OpenedLemmas
pub mod OpeningLemmas
pub mod PullLemmas
pub mod TellingLemmas
