pub mod Slots
pub mod Counts
pub mod Rounds
pub mod Unique
pub mod Plans
