-- how many entries agents keep, and how long the paths to them are
pub mod Few
-- how a search ends, and how a proved plan is walked back
pub mod Ending
-- shares of a plan
pub mod Shares
-- the other agents of a team, and entries of an agent
pub mod Others
-- optimal costs, tasks that no plan solves, and searches that are left undecided
pub mod Right
-- rounds in which no agent expands
pub mod Quiet
-- rounds of a team that is not over
pub mod Going
