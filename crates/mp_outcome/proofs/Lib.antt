-- items of lists that grow at their end
pub mod Pushed
-- a share with one action more, and its number
pub mod ShareLemmas
-- the names of the agent at a place
pub mod NamesLemmas
-- the lines of agents with one agent more
pub mod AgentLemmas
