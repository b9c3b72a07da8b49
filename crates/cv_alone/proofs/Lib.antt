mod Spacing
mod Walking
mod Lexing
pub mod Keeping
mod Fronts
mod Relexing
mod LineEnds
mod OneQuery
