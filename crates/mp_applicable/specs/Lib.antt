-- which own actions apply
pub mod Applicable
-- how actions are listed
pub mod Listing
-- the index of a task's actions
pub mod Index
-- what is found by the lists
pub mod Finding
-- which agents' public actions may be applicable
pub mod Far
