pub mod Digits
pub mod Lengths
pub mod Putting
pub mod ReadBack
pub mod Single
