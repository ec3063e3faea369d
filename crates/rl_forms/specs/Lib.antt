-- what a reader of the theorem reads
pub mod BuiltForms
pub mod Meaning
pub mod Appended
pub mod RunEnds
pub mod Laws
-- what only private functions speak of
pub mod KnownData
pub mod SeenValues
pub mod SeenForms
pub mod ReadForms
pub mod FileForms
pub mod Pages
pub mod Tasks
