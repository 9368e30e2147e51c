-- numbers that pass a test and were added to a set
pub mod FindingLemmas
-- actions in the lists of facts
pub mod ListingLemmas
-- lists of facts in a set of different ones
pub mod FarLemmas
