pub mod Area
pub mod Azimuth
pub mod Closure
pub mod Course
pub mod Distance
pub mod Root
pub mod Share
