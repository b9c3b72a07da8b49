pub mod forms
pub mod printing
