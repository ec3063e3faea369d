pub mod Frames
pub mod Kinds
pub mod Machine
pub mod Shapes
pub mod Recognition
