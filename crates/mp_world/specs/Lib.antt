-- the values of a heuristic
pub mod Values
-- what the agents of a team begin with
pub mod Team
-- what all agents have done and what is under way between them
pub mod World
-- what may happen, and what it leads to
pub mod Events
-- a run of a team
pub mod IsRun
-- what an event changes
pub mod Steps
-- what a run keeps a record of
pub mod Logs
-- joint states
pub mod Joint
-- what a team answers
pub mod Answers
-- the schedule in which the agents take turns
pub mod RoundRobin
-- words of the crates below that laws over runs use: of agents, and of an agent's search
pub mod AgentWords
pub mod SearchWords
