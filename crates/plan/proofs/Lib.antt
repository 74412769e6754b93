pub mod Picks
pub mod Gives
pub mod Goals
pub mod Sizes
pub mod Made
