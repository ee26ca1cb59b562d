pub mod Arriving
pub mod Books
pub mod Columns
pub mod Forms
pub mod Merging
pub mod Naming
pub mod Parts
pub mod Standing
