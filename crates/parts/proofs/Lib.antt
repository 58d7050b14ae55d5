pub mod PartLaws
pub mod WrittenLaws
