pub mod Leaves
pub mod Holds
pub mod Lists
