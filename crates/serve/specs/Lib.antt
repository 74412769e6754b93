pub mod Choices
pub mod Chosen
pub mod Served
