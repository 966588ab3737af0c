pub mod Turns
pub mod Parameters
