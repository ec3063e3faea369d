pub mod Chained
pub mod Carried
pub mod Filled
pub mod New
pub mod Entered
pub mod Field
pub mod Names
pub mod IdentifiersKept
pub mod Blank
pub mod First
pub mod Rows
pub mod Meant
pub mod Changed
pub mod Left
pub mod Numbers
pub mod Kept
pub mod NamesByNumber
pub mod Naming
mod Released
mod HeldFunctions
