pub mod Bodies
pub mod Defining
pub mod Standing
