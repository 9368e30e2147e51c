-- agents that stay with their tasks, while works are shared out and joined
pub mod Kept
-- two works in one
pub mod Joined
-- works, and what is answered of them
pub mod Works
-- nodes at the start and at the end
pub mod Machines
-- a team whose agents have all ended
pub mod Finished
