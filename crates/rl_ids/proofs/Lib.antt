pub mod Following
pub mod AlongLists
pub mod PropertyLists
pub mod Named
pub mod PairParts
pub mod Answering
pub mod Sameness
