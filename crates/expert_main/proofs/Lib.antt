mod Dumped
mod Lines
mod Scripts
mod Spelled
mod Told
