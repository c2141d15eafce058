-- The laws of the root by digits.
pub mod ByDigits
