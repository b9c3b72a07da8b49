pub mod Each
pub mod Numbers
pub mod Options
pub mod Places
pub mod Tests
