pub mod OneSequence
pub mod OneTable
