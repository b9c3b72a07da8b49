pub mod Among
pub mod QueryLists
pub mod Unclosed
