pub mod Serving
pub mod Fitting
pub mod Refusing
