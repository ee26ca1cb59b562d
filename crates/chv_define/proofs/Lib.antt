pub mod KindLemmas
pub mod ListLemmas
pub mod OutputLemmas
pub mod Steps
pub mod ViewSteps
pub mod ViewTables
pub mod WidenLemmas
