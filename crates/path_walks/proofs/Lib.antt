pub mod Lists
pub mod Pieces
pub mod PartKeys
pub mod Halving
