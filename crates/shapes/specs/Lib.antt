pub mod Gathered
pub mod Arrays
