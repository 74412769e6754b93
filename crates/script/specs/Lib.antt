pub mod Pasting
pub mod Lines
