pub mod Bom
pub mod Noting
