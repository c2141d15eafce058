pub mod Bytes
pub mod Kinds
pub mod Record
