pub mod Steps
pub mod Sound
pub mod Complete
pub mod SoundStatements
pub mod CompleteStatements
pub mod Whole
