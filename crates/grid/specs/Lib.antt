pub mod Sides
pub mod Headings
pub mod Squares
pub mod Slots
