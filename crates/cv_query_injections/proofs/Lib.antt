pub mod matching
pub mod places
