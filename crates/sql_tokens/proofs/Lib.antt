pub mod CutSteps
pub mod TokenOrder
