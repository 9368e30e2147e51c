-- the walk along a plan within one agent
pub mod Walk
-- the actions that an agent has of a plan
pub mod Share
