pub mod Records
pub mod Moves
pub mod Openings
pub mod Orders
pub mod Lines
