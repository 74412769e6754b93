pub mod Shown
pub mod Standing
pub mod Moving
pub mod Resting
pub mod Present
pub mod Lines
pub mod Telling
pub mod Asking
