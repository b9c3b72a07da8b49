pub mod Begins
pub mod Choices
pub mod Says
pub mod DeclaredEquivalence
pub mod Sequences
pub mod Others
pub mod Pieces
pub mod Wholes
