pub mod Faults
pub mod Notes
pub mod Lists
pub mod Carriers
pub mod Cleared
pub mod New
pub mod Laid
pub mod Started
