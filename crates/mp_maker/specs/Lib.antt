-- the domain of every agent
pub mod Domain
-- the problem of an agent
pub mod Problem
-- the files of a team
pub mod Delivery
