-- names among others
pub mod Names
-- what is wrong with a word, and which of two faults comes first
pub mod Faults
-- what a factor declares under a name
pub mod Lookups
-- names that are declared more than once
pub mod Repeats
-- names that are used
pub mod Uses
-- all that is wrong with a factor, and the refusal that says it
pub mod CheckFaults
pub mod Refused
-- which types lie under which, and the objects that are of a type
pub mod IsA
pub mod ObjectList
pub mod Members
-- the same as a test
pub mod ByType
pub mod Under
-- what the code keeps, for private clauses alone: names with numbers, and what is listed by types
pub mod Indexed
pub mod Hierarchy
pub mod Listing
pub mod Places
