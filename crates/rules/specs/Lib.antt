pub mod Rules
pub mod Faults
pub mod Entries
pub mod NumberRule
pub mod KindRule
pub mod AnyRule
