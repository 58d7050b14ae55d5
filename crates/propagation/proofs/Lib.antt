pub mod LeavesLaws
pub mod OneFact
pub mod ClauseLaws
pub mod UnitLaws
pub mod WordsLaws
pub mod PassLaws
pub mod RestLaws
pub mod CodeLaws
