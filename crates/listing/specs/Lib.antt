pub mod Rule
pub mod Runs
pub mod Passes
pub mod Still
pub mod Cases
pub mod Meaning
pub mod Calls
