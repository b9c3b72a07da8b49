pub mod Within
pub mod Rows
pub mod Reading
