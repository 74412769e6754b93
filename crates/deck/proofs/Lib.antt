pub mod Numbering
pub mod Turning
pub mod Driving
pub mod Settling
