-- in reading order: who may begin; new machines and their turns until all have ended; events that happen one after another; the events of
-- a schedule that was read; refusals; what a team has found; that it is right for the files, by any log of the team and by
-- that of a run
pub mod Begins
pub mod Ends
pub mod Happens
pub mod Schedules
pub mod Refusals
pub mod Finds
pub mod Found
pub mod Solutions
