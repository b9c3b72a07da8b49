pub mod Bodies
pub mod Functions
