pub mod Pieces
pub mod Lines
pub mod Marks
pub mod Lex
pub mod Examples
