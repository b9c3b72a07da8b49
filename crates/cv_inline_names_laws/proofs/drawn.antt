pub mod Sites
pub mod Laid
pub mod OneSender
