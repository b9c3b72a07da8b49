pub mod Drawing
pub mod LabelLists
pub mod Numbers
pub mod Texts
pub mod Tries
