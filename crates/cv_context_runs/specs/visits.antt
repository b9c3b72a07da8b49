pub mod CallTexts
pub mod Fine
pub mod Follows
