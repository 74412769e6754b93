pub mod Sheets
pub mod Pages
pub mod Solutions
pub mod Classes
