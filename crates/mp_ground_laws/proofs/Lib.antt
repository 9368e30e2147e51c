-- in reading order: lists of faults that are empty; lists of names of which none comes twice; names by their numbers; what a
-- checked factor is known for; facts and their atoms; small costs; lists that are mapped and filtered; atoms in numbers and
-- facts by names; what instances need, add and delete; the texts of facts; the start; costs; static preconditions; lists of
-- member objects; all instances; what is in range; the counted facts; their listing by names; what is tried
-- what the proofs cite of other places
mod Basics
pub mod NoFaults
pub mod Distinct
pub mod Numbered
pub mod Parts
pub mod Facts
pub mod SmallCosts
pub mod Lists
pub mod Atoms
pub mod Needed
pub mod Texts
pub mod Starts
pub mod Costs
pub mod Suiting
pub mod Choosing
pub mod Grounding
pub mod Counted
pub mod Ordered
pub mod Listed
pub mod Tried
