pub mod Answered
pub mod Countable
mod Nodes
mod Listed
mod Planned
mod Closed
mod Settled
pub mod Answers
pub mod Fits
mod Steps
mod StepAnswers
pub mod Pushes
mod Reduced
pub mod Drawn
pub mod Marks
pub mod Walked
pub mod Closings
pub mod StepKinds
pub mod Followed
