pub mod Bindings
pub mod Kinds
pub mod Terms
pub mod Values
