pub mod Calls
pub mod Damage
pub mod Holding
pub mod Openings
pub mod Stores
