pub mod Authentication
pub mod Encryption
