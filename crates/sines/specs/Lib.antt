pub mod Sine
