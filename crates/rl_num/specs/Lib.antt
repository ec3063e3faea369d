pub mod Arithmetic
pub mod Number
