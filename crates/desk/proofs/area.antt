-- The laws of the area round a loop.
pub mod Looping
