pub mod SchemaLemmas
pub mod WrittenLemmas
