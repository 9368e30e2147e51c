-- what the agents of a team contribute, and their factors
pub mod Contributions
-- conditions as they are written, and those of instances
pub mod Conditions
-- what verdicts say
pub mod Meanings
