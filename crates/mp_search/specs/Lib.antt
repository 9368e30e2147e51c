-- a state as one agent of a team knows it
pub mod AgentState
-- which states are sent, and to whom
pub mod Concern
-- what a search has done so far
pub mod Search
-- states that are offered
pub mod Offering
-- what is sent of a state
pub mod Sending
-- how an entry is expanded
pub mod Expansion
-- the message that bytes spell
pub mod Spelled
-- how a state from another agent is received
pub mod Receipt
-- answers for want of memory
pub mod Memory
-- keys of a store, and the states that they stand for
pub mod StateKeys
-- what a step of an expansion leads to
pub mod Steps
-- own actions that may be applied
pub mod Applying
-- the fields of a search
pub mod SearchFields
-- what the calls of a search answer
pub mod Answers
-- the store of a search
pub mod StoreSeen
