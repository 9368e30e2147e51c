-- agents that are kept
pub mod Keeping
-- places of nodes that are changed
pub mod Changing
-- works that are split and joined
pub mod Serving
-- works that were served
pub mod Answering
-- works that share agents
pub mod Shares
-- a team at the start
pub mod First
-- a team at the end
pub mod Ended
-- no message is a bad one, so nobody was halted, and all have ended
pub mod NoneBad
-- desks that go to other threads
pub mod Crossing
