pub mod Lexis
pub mod Symbols
pub mod View
