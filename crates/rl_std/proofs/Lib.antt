pub mod Coming
pub mod Turning
pub mod Along
pub mod Ways
pub mod Visits
pub mod Parting
pub mod Listing
