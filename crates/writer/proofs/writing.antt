-- The laws of what the stores of a record leave.
pub mod Stores
