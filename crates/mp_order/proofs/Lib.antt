-- in reading order: steps that change places; states that differ in one agent's private facts; private steps as closing
-- groups; plans put in order; ordered plans solve; blocks and groups as lists of steps; the worked team, and its plans
-- that are not in order
pub mod Swaps
pub mod Apart
pub mod Closing
pub mod InOrder
pub mod Solving
pub mod BlocksAndGroups
pub mod OrderedExample
pub mod UnorderedExamples
