pub mod Orders
pub mod Scripts
pub mod Theorems
pub mod Refusals
pub mod Texts
pub mod Asking
pub mod Writing
