-- lists of any kind: filters, pairs, splits
pub mod Filters
-- a list is known by its stamps
pub mod Sorted
-- the part of each agent
pub mod Parts
-- the merged log is legal
pub mod Histories
-- what a turn takes, and which comes next
pub mod Turns
-- a merge by turns, from the first to the last
pub mod ByTurns
-- what goes over to a log
pub mod Moves
-- what holds of a log
pub mod OfLogs
-- worked lists fit each other
pub mod Examples
