mod Blocks
mod Parsed
pub mod Rests
pub mod Marks
pub mod Scanned
pub mod Wholes
pub mod Named
pub mod SoundReports
