pub mod Check
pub mod Round
