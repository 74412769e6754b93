pub mod Assignments
pub mod MiddleRows
pub mod Planned
pub mod Theorems
