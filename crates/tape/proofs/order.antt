-- The laws of the reading in order: of a record, and of the parts of a tape.
pub mod Parts
pub mod Passing
