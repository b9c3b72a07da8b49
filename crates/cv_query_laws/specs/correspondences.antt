pub mod Happenings
pub mod Premises
