pub mod Measures
pub mod Held
pub mod Registers
pub mod Charges
pub mod Cases
