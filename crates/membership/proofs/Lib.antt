pub mod LoopLaws
pub mod SearchLaws
