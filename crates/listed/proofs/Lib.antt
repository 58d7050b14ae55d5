pub mod InitialLaws
pub mod ShownLaws
