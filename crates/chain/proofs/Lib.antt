pub mod PlanFacts
pub mod Decked
pub mod Fitting
pub mod Keeping
