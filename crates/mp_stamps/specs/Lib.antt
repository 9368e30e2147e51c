-- a message with a stamp
pub mod Mail
-- stamped lists, and how those of a team fit each other
pub mod Lists
-- one log of all lists
pub mod Merged
-- entries of several lists, sorted by stamps
pub mod Sorting
-- a merge by turns
pub mod Turns
-- worked lists
pub mod Examples
