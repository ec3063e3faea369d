-- what a reader of the theorem reads
pub mod Texts
pub mod Status
pub mod Headline
-- what only private functions speak of
pub mod EndsAsStatus
pub mod Loads
