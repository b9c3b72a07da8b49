pub mod Tuples
pub mod Candidates
pub mod Serving
pub mod Phrases
pub mod Inclusion
pub mod Keeping
