pub mod Faults
pub mod Decks
pub mod Turned
pub mod Driven
pub mod Settled
