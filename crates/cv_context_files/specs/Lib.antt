pub mod right_forms
pub mod right_names
pub mod worked
pub mod tapes
pub mod counts
