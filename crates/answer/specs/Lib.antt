pub mod Limit
pub mod Refusal
pub mod Told
