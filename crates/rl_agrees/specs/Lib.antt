pub mod Later
pub mod Leaving
pub mod Heads
pub mod Expanding
pub mod TwoRunsJobs
pub mod TwoRunsRuns
pub mod Identity
pub mod Laws
