pub mod Routes
pub mod Rows
pub mod Making
