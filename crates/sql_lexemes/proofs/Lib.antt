pub mod TokenSteps
pub mod NamedParameters
