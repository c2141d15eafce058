pub mod Fields
pub mod Legs
pub mod Passing
pub mod Tape
