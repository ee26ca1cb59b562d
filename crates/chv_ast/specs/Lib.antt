pub mod Formed
pub mod Grammar
pub mod GrammarStatements
pub mod Lexemes
pub mod Refusals
pub mod Spellings
pub mod Words
