pub mod Tables
pub mod Registers
pub mod Bytes
pub mod Division
pub mod Digits
pub mod Differences
