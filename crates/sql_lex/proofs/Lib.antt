pub mod Fronts
pub mod StatementSteps
pub mod RowWindows
pub mod RowPasses
pub mod FirstFitting
pub mod LevelStacks
