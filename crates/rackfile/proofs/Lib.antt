pub mod Places
pub mod Turns
pub mod Names
pub mod Lines
