pub mod Blocks
pub mod Spellings
