pub mod Steps
pub mod Forms
pub mod Made
pub mod pieces
