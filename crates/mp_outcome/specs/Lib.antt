-- what own actions stand for, agent by agent
pub mod Names
-- shares whose numbers stand for something else
pub mod Renumbered
