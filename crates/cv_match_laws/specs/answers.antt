pub mod Answers
pub mod Drawn
