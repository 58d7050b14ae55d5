pub mod Gathered
pub mod Ready
pub mod RightTwo
pub mod CounterLaws
pub mod RuleTruth
pub mod TryLaws
pub mod VerdictLaws
