pub mod Below
pub mod Blocks
pub mod Bound
pub mod Deliveries
pub mod Places
