pub mod ListLaws
pub mod KnownLeaves
