pub mod Entry
pub mod Exact
pub mod Quadrant
