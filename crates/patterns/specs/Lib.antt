pub mod Tests
pub mod Matched
