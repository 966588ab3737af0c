pub mod Fronts
pub mod View
