pub mod Faults
pub mod Records
pub mod Orders
pub mod RuleNames
pub mod Reading
pub mod RecordLists
