pub mod Facts
pub mod Task
pub mod Reach
pub mod System
pub mod Stricter
pub mod Inner
