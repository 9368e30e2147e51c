-- what the proofs cite of other places
mod Basics
pub mod BuildSteps
-- what is said by a rule: its words, its costs, how much there is of it
pub mod GivesLemmas
pub mod TreeWords
pub mod FormLaws
pub mod OneWord
pub mod CountLaws
pub mod ValueLaws
pub mod EffectLaws
pub mod FileLaws
pub mod TakenFiles
-- two faults compared
pub mod Fronts
