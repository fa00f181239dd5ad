pub mod Pieces
pub mod Lex
pub mod Examples
