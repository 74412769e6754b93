pub mod Wording
pub mod Writing
pub mod RoundTrip
pub mod Reading
