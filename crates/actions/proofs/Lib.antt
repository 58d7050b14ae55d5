pub mod MarkLaws
pub mod ActionLaws
pub mod EntryActions
pub mod SearchLaws
