pub mod NextGame
pub mod Draws
pub mod Worked
pub mod bodies
pub mod terms
