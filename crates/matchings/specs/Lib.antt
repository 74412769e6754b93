pub mod Matchings
pub mod Regular
pub mod Theorems
pub mod Reaching
pub mod Placing
