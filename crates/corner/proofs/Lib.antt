pub mod Spread
pub mod Leg
pub mod Corner
pub mod Feeds
pub mod PrintedCorner
pub mod Witness
