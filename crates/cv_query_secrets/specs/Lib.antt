pub mod sessions
pub mod unread
