pub mod Turns
pub mod Angles
pub mod Answer
pub mod Line
pub mod Sheet
pub mod Traverse
pub mod Inside
