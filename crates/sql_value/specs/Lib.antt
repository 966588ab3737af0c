pub mod Keywords
pub mod Reserved
pub mod View
pub mod Collations
