pub mod Entries
pub mod Every
pub mod Listed
pub mod Single
