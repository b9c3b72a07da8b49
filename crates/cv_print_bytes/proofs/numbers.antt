pub mod NumberRows
pub mod Numbering
pub mod SmallSigns
