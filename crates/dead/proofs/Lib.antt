pub mod DeadRules
