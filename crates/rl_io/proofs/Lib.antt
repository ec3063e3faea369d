pub mod Sure
pub mod Splices
pub mod Looks
pub mod Lies
