pub mod ClauseShapes
pub mod AssumeLaws
pub mod FillLaws
pub mod SetLaws
pub mod SeekLaws
pub mod StartLaws
