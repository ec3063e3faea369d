pub mod Kinds
pub mod Scans
pub mod Parts
pub mod Tokens
