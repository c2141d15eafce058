pub mod Unrounded
pub mod Printed
