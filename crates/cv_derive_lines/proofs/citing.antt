mod Fronts
mod Looking
mod Saying
pub mod Serving
