pub mod Above
pub mod Many
