pub mod Listed
pub mod Search
pub mod Told
