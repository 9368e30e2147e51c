pub mod Numbering
pub mod Touched
pub mod Stands
pub mod Plans
-- names that a factor declares
pub mod Declared
-- what an agent knows where it grounds its factor, and what the agents count by that
pub mod Knowing
-- what the numbers of a team's tasks stand for
pub mod Numbered
-- a factor with other private names
pub mod Renaming
-- two factors that are the same in numbers
pub mod Translation
-- a team one of whose agents renames
pub mod Team
