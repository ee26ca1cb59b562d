pub mod Checks
pub mod Names
pub mod Paths
pub mod Schemas
pub mod Walks
