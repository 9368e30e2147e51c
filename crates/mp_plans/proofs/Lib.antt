-- numbers that grow with their digits
mod NumberLemmas
-- names without capital letters
mod NameLemmas
-- the first line of a text
mod LineLemmas
-- the first word of a text
mod WordLemmas
-- the steps of one agent more
mod AgentLemmas
-- steps at the places of their times
mod SlotLemmas
-- a plan has no more steps than its text has bytes
pub mod PlanSizes
-- lines and numbers as they are written are read again; so are steps, and what each agent has of a plan; taken by their
-- times these are the plan; all together
mod WrittenLines
mod WrittenNumbers
mod WrittenSteps
mod WrittenAgents
mod WrittenOrder
mod WrittenPlans
-- the lines of concurrent steps
pub mod PackedLemmas
