pub mod BelowLemmas
pub mod BoundLemmas
pub mod CatalogLemmas
pub mod FeedLemmas
pub mod HeldLemmas
pub mod PlaceLemmas
pub mod PlanLemmas
pub mod RowLemmas
