-- fields of a line, read from left to right
pub mod Fields
-- the names of a step
pub mod Names
-- the lines of a plan
pub mod Lines
-- plans as texts
pub mod Plan
-- outcomes that are written with their plan
pub mod Written
-- steps at the places of their times
pub mod Slots
-- what is told of a plan that was checked
pub mod Verdict
-- what is told of a made problem
pub mod Made
-- what is told of concurrent steps
pub mod Packed
