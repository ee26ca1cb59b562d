pub mod Integers
pub mod Places
pub mod Runs
