pub mod BindLemmas
pub mod ColumnLemmas
pub mod FitLemmas
pub mod MeansLemmas
pub mod TermFits
pub mod TermLaws
pub mod TreeLaws
