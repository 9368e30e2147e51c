-- in reading order: words of the standard library; the step of an agent by cases; an agent's task stays; agents and
-- messages of a world that changes in one place; what an event changes; what runs keep; the agents of a team; the entries
-- of an event; the log of a run; the run of a log; what round robin makes
pub mod Basics
pub mod LocalCases
pub mod Tasks
pub mod Mail
pub mod Stepping
pub mod Runs
pub mod Agents
pub mod Entries
pub mod LogOfRun
pub mod RunOfLog
pub mod Turns
