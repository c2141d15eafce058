pub mod Given
pub mod RoundTrip
pub mod Writing
