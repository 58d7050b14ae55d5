pub mod WithinRules
