pub mod Walks
pub mod Kept
pub mod Cut
pub mod Sound
pub mod Bytes
pub mod Places
