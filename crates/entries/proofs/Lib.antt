pub mod FormLaws
pub mod SliceLaws
pub mod EntryChecks
