-- what is meant by the first item of a list, in reading order
pub mod First
-- items that repeat an earlier one
pub mod Repeats
-- where a small list keeps its items
pub mod Kept
