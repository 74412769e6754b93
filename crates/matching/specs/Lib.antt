pub mod WorkLists
pub mod Tables
pub mod Seating
pub mod Answers
