pub mod LastIds
pub mod Words
