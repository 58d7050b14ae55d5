pub mod ToldLaws
pub mod LimitLaws
pub mod RowLaws
pub mod OutlineLaws
pub mod TaskLaws
pub mod HeadLaws
pub mod SectionChecks
pub mod LayoutLaws
