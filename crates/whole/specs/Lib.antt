pub mod Filled
pub mod Nearest
pub mod Order
pub mod Sum
