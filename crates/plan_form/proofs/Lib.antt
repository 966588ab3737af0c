mod Scanning
pub mod SeenPaths
pub mod PathViews
pub mod IndexColumns
mod JoinedTests
mod Lines
mod Forms
mod Members
mod RowidSearch
mod Marking
mod Unions
mod PlanSteps
mod ListsOfPaths
mod FittingPaths
mod Answered
mod Turns
