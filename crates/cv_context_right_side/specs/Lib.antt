pub mod Right
pub mod texts
pub mod queries
pub mod worked
