pub mod Quiet
pub mod Halves
pub mod Runs
pub mod Effects
