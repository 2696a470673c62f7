pub mod Totals
pub mod Floors
pub mod Shifts
pub mod Casts
