-- laws on tests that std lacks
pub mod Bools
-- members of lists
pub mod Members
-- strict orders from comparisons
pub mod Orders
-- the first of some items is one of them, and none of them comes before it
pub mod FirstLemmas
-- of some items one alone is the first
pub mod OneFirst
-- the first item of what a loop looks at, one after the other
pub mod Steps
-- items that repeat earlier ones
pub mod RepeatLemmas
