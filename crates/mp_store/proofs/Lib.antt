-- entries that are replaced one by one
pub mod Mapped
-- the rules over numbers are those over the keys that they stand for
pub mod Naming
-- entries that differ in their marks alone
pub mod Marks
-- what holds of each record goes on to hold
pub mod Sound
-- what was known and what was sent stays so
pub mod Growing
-- the order of open entries
pub mod RankLemmas
-- ranks in their order, beside others
pub mod OpenLemmas
-- the best entry of a key
pub mod BestLemmas
-- the ranks of open entries
pub mod OpenRanks
-- the best entry of a key once it is kept
pub mod BestKept
-- what the indices say
pub mod Indexed
-- the least open entry is closed
pub mod Closing
-- the state of an entry is sent
pub mod Sending
-- a fact of two values, carried over to equal ones
pub mod Carry
-- an entry is kept
pub mod Keeping
-- the first entry of a new key
pub mod KeptFirst
-- a cheaper entry of a known key
pub mod KeptAgain
-- lists of tags
pub mod TagLemmas
-- keys as rows of words
pub mod KeyRowLemmas
-- the keys of a store and their places
pub mod KeyPlaces
-- offers over numbers and over keys
pub mod Offering
-- each key has an entry
pub mod Entries
-- the least open entry is one of those that are kept
pub mod Popped
