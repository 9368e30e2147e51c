-- in reading order: one machine of many changes; what an event makes of a world, and of the parts of a
-- team; the run goes on; a team at the start; answers; messages that are
-- taken get fewer; parts of a schedule; a round is more events, and rounds are few; how agent 1 has ended, and
-- what a team found; the laws of runs
pub mod MachinePlaces
pub mod Events
pub mod Happens
pub mod Goes
pub mod Starts
pub mod Answering
pub mod Fewer
pub mod Onward
pub mod MoreEvents
pub mod FewRounds
pub mod Ended
pub mod Outcomes
pub mod Keeping
