-- what an agent shows after grounding
pub mod Closed
-- the task of an agent from its grounded factor and what all agents show
pub mod TaskOf
-- the same from what the tasks of a team have in common
pub mod Common
-- the tasks of a team
pub mod Team
-- grounded factors of the first agents of a team
pub mod Begun
