pub mod IntegerLemmas
pub mod NumberLemmas
pub mod RunLemmas
