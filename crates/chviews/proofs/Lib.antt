pub mod SourceLemmas
pub mod TransferLemmas
