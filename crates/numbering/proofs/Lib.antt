pub mod ListLaws
