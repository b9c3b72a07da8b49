pub mod Unread
pub mod Alike
pub mod CellSizes
pub mod Chances
pub mod PutIn
