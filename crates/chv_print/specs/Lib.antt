pub mod ExprTexts
pub mod StatementTexts
pub mod Texts
