mod Places
mod Raised
