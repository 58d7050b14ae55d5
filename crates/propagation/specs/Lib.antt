pub mod Clauses
pub mod Propagation
pub mod Usable
