pub mod Runs
pub mod Motions
pub mod Plans
pub mod Carrying
