pub mod Limits
pub mod ExprGrammar
pub mod Printed
pub mod TestGrammar
pub mod Tests
pub mod Parentheses
pub mod Examples
pub mod GrammarExamples
