pub mod Merging
pub mod NormalForms
pub mod Picks
