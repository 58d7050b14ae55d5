pub mod Forms
