pub mod Refused
pub mod Single
pub mod Ways
