pub mod chosen
pub mod guess
