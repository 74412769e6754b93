pub mod Squares
pub mod Undoing
pub mod Runs
pub mod Motions
pub mod Lengths
pub mod Whole
