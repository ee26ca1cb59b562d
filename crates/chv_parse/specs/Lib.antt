pub mod ExprReading
pub mod Reading
pub mod StatementReading
pub mod StatementTexts
