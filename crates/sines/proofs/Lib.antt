pub mod Bound
pub mod Chord
pub mod Line
pub mod Own
pub mod Quadrants
pub mod Series
pub mod Single
pub mod Turns
