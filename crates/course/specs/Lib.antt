pub mod Routes
pub mod Stages
pub mod Greatest
pub mod Upright
