pub mod Bookmarks
pub mod Citing
