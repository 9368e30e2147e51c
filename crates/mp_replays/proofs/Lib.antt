-- in reading order: a team with its own names, and what follows from the law of renaming for it; the tasks of files are
-- numbered; what is found by one schedule; the refused line of a schedule's text
pub mod Same
pub mod OneTeam
pub mod Teams
pub mod Found
pub mod Refused
-- each entry of a log of a team is one of the team; what was found is found again by its trace
pub mod Logged
pub mod Replayed
