pub mod uses
pub mod heads
pub mod patterns
