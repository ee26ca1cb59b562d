pub mod BlockLemmas
pub mod CutLemmas
pub mod DefaultLemmas
pub mod FitLemmas
pub mod JoinedLemmas
pub mod LawLemmas
pub mod PieceLemmas
pub mod ValueLemmas
