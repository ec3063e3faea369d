pub mod StackState
pub mod StackLayout
pub mod ShowsStack
pub mod StackLaws
pub mod Saving
