pub mod Courses
pub mod Headings
