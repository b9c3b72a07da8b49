pub mod Comments
pub mod Exact
pub mod Listing
pub mod Pieces
pub mod Places
pub mod Reading
pub mod SymbolTable
pub mod Values
