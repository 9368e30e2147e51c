-- what a search has kept: entries, the keep rule, the states that were sent
pub mod Record
-- the least open entry, the least goal entry, the best entry of a state
pub mod Minima
-- which states count as sent
pub mod Sent
-- what holds of each record that the rules lead to
pub mod Laws
-- which keys are the same
pub mod Keys
-- keys are told apart
pub mod KeyLaws
-- records over numbered keys
pub mod Numbered
-- the indices of a store over numbered keys
pub mod NumberFields
-- the order of open entries
pub mod Ranks
-- a heap of ranks as the list of them
pub mod OpenFields
-- keys in the place of numbers
pub mod Named
-- keys as rows of words
pub mod KeyRows
-- the record that a store stands for
pub mod StoreFields
-- what a caller sees of an entry
pub mod Views
