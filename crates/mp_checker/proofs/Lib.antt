-- facts in numbers are the same where the facts by names are
pub mod SameNumbers
-- names that a list of names covers
pub mod CoversLemmas
-- atoms in numbers at objects, and atoms by names
pub mod AtomsAt
-- a map that has the first value of each function
pub mod ValueLemmas
-- the factors of a team, agent by agent
pub mod TeamLemmas
-- which objects may stand for parameters
pub mod StandingLemmas
-- the first literal that does not hold, and the state after an instance
pub mod FailingLemmas
-- costs in numbers and by names
pub mod CostLemmas
-- the verdict on a plan, step by step
pub mod VerdictLemmas
-- the start and the goals, agent by agent
pub mod StartLemmas
-- one step of one agent
pub mod TakenLemmas
-- places in a list of facts that grows
pub mod PlaceLemmas
-- steps in numbers
pub mod StepLemmas
-- which facts are true, by the marks of their numbers
pub mod MarkLemmas
-- literals that are looked at one after another
pub mod AskLemmas
