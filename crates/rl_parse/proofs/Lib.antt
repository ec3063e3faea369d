pub mod Nested
pub mod Simulation
pub mod Rising
pub mod Stopping
pub mod Advancing
pub mod Rounds
pub mod Windows
