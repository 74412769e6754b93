pub mod OneCell
pub mod NewFloors
pub mod Records
pub mod Trials
