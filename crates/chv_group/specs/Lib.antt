pub mod Collapses
pub mod Groups
pub mod KeyBytes
pub mod Keys
pub mod Takings
pub mod Tallies
