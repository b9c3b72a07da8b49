pub mod Alternatives
mod Pairing
mod SecretPairing
mod Deciding
mod Judged
