pub mod Threes
pub mod Texts
pub mod Waited
pub mod BoundsKept
pub mod CountsTaken
pub mod TextsStay
pub mod Openings
pub mod Walks
