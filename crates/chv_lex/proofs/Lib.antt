pub mod BlankLemmas
pub mod ClassLemmas
pub mod ReadingLaws
pub mod ScriptLemmas
pub mod SpelledLaws
pub mod SpellingLemmas
pub mod TextLemmas
pub mod TokenLemmas
