pub mod WordSteps
pub mod ReadBytes
pub mod Elements
pub mod Lexemes
