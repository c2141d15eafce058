pub mod Figures
pub mod Single
pub mod Telling
