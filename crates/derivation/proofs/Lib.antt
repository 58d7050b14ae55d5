pub mod Derived
pub mod ReplyLaws
