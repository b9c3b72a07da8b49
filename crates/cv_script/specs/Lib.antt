pub mod Steps
pub mod Text
pub mod Views
pub mod rows
pub mod reader
