-- what the proofs cite of other places
mod Basics
-- the numbers of texts are their places in a table that is in the order of bytes
pub mod Numbering
-- what holds of the items of a list holds of those in order
pub mod InOrder
-- a list that is made of what is taken from another one
pub mod Taking
-- actions whose numbers stay as they are
pub mod InPlace
-- parts of actions of which one that repeats the one before is left out
pub mod Repeated
-- what an agent shows: texts in their order, parts of its actions
pub mod Showing
-- what the agents of a team show together: the table of public facts, the parts of all actions
pub mod Together
-- the task of one agent: own actions by the team's numbers, its limits
pub mod OneTask
-- the grounded factors of the first agents of a team, one more and all, and the tasks that are made of them
pub mod FirstAgents
