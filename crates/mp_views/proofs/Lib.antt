-- the items of a list in an order, added one by one
-- what the proofs cite of other places
mod Basics
pub mod SortedLemmas
-- lists in an order: that they rise, and what they have
pub mod SortedLaws
-- the first item that ties with a given one, which tells lists that rise apart
pub mod TiedLemmas
-- parts with their lines
pub mod PartLemmas
-- spellings of facts, and letters that are folded
pub mod FoldedLemmas
-- what agents show before grounding: public predicates alone
pub mod OpenLaws
