pub mod Damage
pub mod Delivering
pub mod Faults
pub mod Merging
pub mod Opening
pub mod Tables
pub mod Turning
