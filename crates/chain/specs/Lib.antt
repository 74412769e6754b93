pub mod Faults
pub mod Floors
pub mod Calls
pub mod Sheets
pub mod Chains
pub mod Promises
