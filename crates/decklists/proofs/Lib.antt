pub mod Placing
pub mod Noting
pub mod Moving
pub mod Starting
