pub mod AtomText
pub mod Counted
pub mod Walk
pub mod Laws
