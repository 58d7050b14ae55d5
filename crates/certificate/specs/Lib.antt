pub mod Views
pub mod Index
pub mod Rows
pub mod Known
pub mod Faults
