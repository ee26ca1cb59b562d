pub mod MemberLemmas
pub mod Names
pub mod OrderLemmas
pub mod RangeLemmas
pub mod SortingLemmas
pub mod TextLemmas
