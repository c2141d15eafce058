pub mod Bodies
pub mod Single
