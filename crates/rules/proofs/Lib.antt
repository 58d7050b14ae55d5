pub mod RuleLaws
pub mod Saying
pub mod Dispatch
