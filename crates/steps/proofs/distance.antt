-- The laws of factors and grid distances.
pub mod Distances
