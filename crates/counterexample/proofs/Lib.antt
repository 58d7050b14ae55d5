pub mod Lists
pub mod LeafLaws
pub mod Moved
pub mod Reduced
