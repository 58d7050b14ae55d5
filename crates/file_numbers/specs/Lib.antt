pub mod Numbers
pub mod ClauseRule
