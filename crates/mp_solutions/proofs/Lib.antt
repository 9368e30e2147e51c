-- the text of a plan is that of the agents' shares; what the agents' actions stand for, agent by agent; plans by names;
-- answers for files; all together; that round robin goes on to the end
pub mod PlanTexts
pub mod Names
pub mod Plans
pub mod Answers
pub mod Files
pub mod ToEnd
