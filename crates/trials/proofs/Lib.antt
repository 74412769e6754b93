pub mod OneCell
pub mod Checks
pub mod Matchings
pub mod NewFloors
pub mod Records
pub mod Trials
