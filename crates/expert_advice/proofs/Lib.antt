pub mod Numbers
pub mod Marking
pub mod UseOfPlans
pub mod Additions
pub mod FullSchemas
pub mod FullFigures
pub mod PlansThatFit
