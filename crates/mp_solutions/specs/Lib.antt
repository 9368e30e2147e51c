-- the text of an answer with its plan
pub mod PlanText
-- when an answer is right for a team's files
pub mod Right
-- what a team finds, by round robin or by a schedule that is replayed
pub mod Solution
