pub mod Trees
pub mod Runs
pub mod KindLemmas
pub mod Placed
pub mod Complete
pub mod Sound
pub mod Depth
pub mod FaultCounts
pub mod Faults
pub mod ReadLaws
-- in reading order: a map that has the place of each name, while names are added; the name at a name's number
pub mod Places
pub mod NamesAt
