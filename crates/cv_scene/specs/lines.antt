pub mod Ends
pub mod Given
pub mod Inferences
pub mod Lines
pub mod Truths
pub mod Targets
