-- Lemmas that lead to the laws of the heuristic, in reading order: lists, what operators lead to, supports, one round, the
-- costs of plans, all rounds. They stand here because its impl cites the last ones.
pub mod Lists
pub mod Leading
pub mod Supports
pub mod Round
pub mod Costs
pub mod Rounds
