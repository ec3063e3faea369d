pub mod Commands
pub mod Loading
pub mod Endings
pub mod Numbers
