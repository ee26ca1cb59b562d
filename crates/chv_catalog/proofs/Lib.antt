pub mod FaultLemmas
pub mod ListLemmas
pub mod NameLemmas
pub mod PathLemmas
pub mod Positions
pub mod SchemaLemmas
pub mod StepLemmas
pub mod WalkLemmas
