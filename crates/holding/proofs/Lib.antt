pub mod AskLaws
pub mod TriedLaws
