pub mod Soundness
pub mod States
pub mod Meaning
pub mod Map
pub mod Commands
pub mod Runs
pub mod Effects
