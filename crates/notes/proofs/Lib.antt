pub mod Marks
pub mod Single
