pub mod DeliveryLemmas
pub mod EntryLemmas
pub mod LogDamageLemmas
pub mod OpeningLemmas
pub mod RowsLemmas
pub mod TableLemmas
pub mod TurningLemmas
pub mod MergeLemmas
