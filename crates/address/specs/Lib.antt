pub mod Bits
pub mod CheckByte
pub mod Division
pub mod Hexadecimal
pub mod Parts
pub mod SearchOrder
pub mod Numbers
pub mod Orders
